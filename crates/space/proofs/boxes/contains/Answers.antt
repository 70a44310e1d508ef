-- Side by side, as `within` tells, each asked where those before it hold.
use mathlib.Core.Path.{◌≡◌}
use mathlib.Core.Bool.{Bool}
use native.Mathlib.Omega.{arith}
use lib.IntN.{ℤ}
use lib.Signed.{◌≤ℤ◌}
use Rattle.std.proofs.lemmas.Int.{ints}
use Rattle.space.specs.Numbers.{Tells}
use Rattle.space.specs.Boxes.{In, box_of}
use Rattle.space.specs.Vectors.{entries}
use Rattle.space.specs.declared.boxes.Bounds.{Bounds}
use Rattle.space.specs.declared.vector.Vector.{Vector}
use Rattle.space.proofs.Machine.{held}
use Rattle.space.proofs.Telling.{tells_as, tells_both, tells_neither}
use Rattle.space.proofs.boxes.contains.Goals as goal
use Rattle.space.proofs.boxes.contains.Goals.{then-within, else-within, then-within-2, else-within-2}

-- x lies from l to u
abbrev Lies : ℤ → ℤ → ℤ → Type 0
Lies l x u = (l ≤ℤ x) × (x ≤ℤ u)

abbrev First : Bounds → Vector → Type 0
First b p = Lies b.low.x0 p.x0 b.high.x0

abbrev Two : Bounds → Vector → Type 0
Two b p = First b p × Lies b.low.x1 p.x1 b.high.x1

abbrev Three : Bounds → Vector → Type 0
Three b p = Two b p × Lies b.low.x2 p.x2 b.high.x2

-- what `within` tells of three fields, each as it is read back
read : (l x u : ℤ) {r : Bool} → held l ≡ l → held x ≡ x → held u ≡ u → Tells (Lies (held l) (held x) (held u)) r → Tells (Lies l x u) r
read l x u f g h t = rw (f, g, h) at t

-- the four together
all : (b : Bounds) (p : Vector) {r : Bool} → Tells (Three b p × Lies b.low.x3 p.x3 b.high.x3) r → Tells (In (box_of b) (entries p)) r
unfolding In
all b p t =
    tells_as
    (λ h. (h.0.0.0.0, h.0.0.0.1, (h.0.0.1.0, h.0.0.1.1, (h.0.1.0, h.0.1.1, (h.1.0, h.1.1, tt)))))
    (λ h. ((((h.0, h.1), (h.2.0, h.2.1)), (h.2.2.0, h.2.2.1)), (h.2.2.2.0, h.2.2.2.1))) t

pub returns-then-within-3 : goal.returns-then-within-3
returns-then-within-3 c =
    let b = c.args.b in
    let p = c.args.p in
    let one : Tells (First b p) c.within.result = read _ _ _ (omega (arith, ints)) (omega (arith, ints)) (omega (arith, ints)) c.within.ensures in
    let two : Tells (Two b p) c.if-within.value =
    elim c.if-within.branch [
      | then-within w ↦ rw w.value-is (tells_both one w.if-within.true (read _ _ _ (omega (arith, ints)) (omega (arith, ints)) (omega (arith, ints)) w.within-then-within.ensures))
      | else-within w ↦ rw w.value-is (tells_neither one w.if-within.false)
    ] in
    let three : Tells (Three b p) c.if-within-2.value =
    elim c.if-within-2.branch [
      | then-within-2 w ↦ rw w.value-is (tells_both two w.if-within-2.true (read _ _ _ (omega (arith, ints)) (omega (arith, ints)) (omega (arith, ints)) w.within-then-within-2.ensures))
      | else-within-2 w ↦ rw w.value-is (tells_neither two w.if-within-2.false)
    ] in
    all b p (tells_both three c.if-within-3.true (read _ _ _ (omega (arith, ints)) (omega (arith, ints)) (omega (arith, ints)) c.within-then-within-3.ensures))

pub returns-else-within-3 : goal.returns-else-within-3
returns-else-within-3 c =
    let b = c.args.b in
    let p = c.args.p in
    let one : Tells (First b p) c.within.result = read _ _ _ (omega (arith, ints)) (omega (arith, ints)) (omega (arith, ints)) c.within.ensures in
    let two : Tells (Two b p) c.if-within.value =
    elim c.if-within.branch [
      | then-within w ↦ rw w.value-is (tells_both one w.if-within.true (read _ _ _ (omega (arith, ints)) (omega (arith, ints)) (omega (arith, ints)) w.within-then-within.ensures))
      | else-within w ↦ rw w.value-is (tells_neither one w.if-within.false)
    ] in
    let three : Tells (Three b p) c.if-within-2.value =
    elim c.if-within-2.branch [
      | then-within-2 w ↦ rw w.value-is (tells_both two w.if-within-2.true (read _ _ _ (omega (arith, ints)) (omega (arith, ints)) (omega (arith, ints)) w.within-then-within-2.ensures))
      | else-within-2 w ↦ rw w.value-is (tells_neither two w.if-within-2.false)
    ] in
    all b p (tells_neither three c.if-within-3.false)
