-- Demand 2, the first half: at most one reply is the verdict on a job, and one the room count.
use mathlib.Core.Path.{◌≡◌, refl, sym, ap, ap₂, subst, ◌∙◌}
use mathlib.Core.Logic.{◌⊎◌, inl, inr, ⊎_elim}
use mathlib.Core.List.{List}
use mathlib.Core.Bool.{cond}
use Prim.Native.Nat.{ℕ, suc, ◌≤◌}
use native.Mathlib.Omega.{arith}
use native.Mathlib.Decide.{dec_le}
use lib.Dec.{eqb}
use Rattle.std.proofs.Common.{Result}
use lib.ListN.{length}
use lib.IntN.{ℤ}
use Rattle.space.specs.declared.vector.Vector.{Vector}
use Rattle.space.specs.Vectors.{entries, plus_of, minus_of}
use Rattle.space.specs.Order.{Before, AtMost}
use Rattle.space.proofs.VectorLaws.{plus_minus, vector_of}
use Rattle.space.proofs.OrderLaws.{before_irreflexive, before_trans, at_most_both}
use Rattle.job.specs.declared.record.Job.{Job}
use Rattle.job.specs.Refusals.{and_then}
use Rattle.job.specs.Limits.{limits}
use Rattle.job.proofs.Refusing.{first_unique, each_number}
use Rattle.verdict.proofs.OneAnswer.{one_hops}
use Rattle.verdict.specs.Extents.{ExtentOf}
use Rattle.verdict.specs.Rules.{Collides, CollidesSome, rules}
use Rattle.verdict.specs.Verdicts.{Lowest, FirstPair, in_numbers, number_of, Claims, Says}
use Rattle.verdict.specs.Rooms.{room_of, Counts}
use Rattle.verdict.specs.declared.judge.Extent.{Extent}
use Rattle.verdict.specs.declared.judge.Pair.{Pair}
use Rattle.verdict.specs.declared.judge.Collision.{Collision}
use Rattle.verdict.specs.declared.numbers.InNumbers.{InNumbers}
use Rattle.verdict.specs.declared.judge.Verdict.{Verdict}
use Rattle.verdict.specs.declared.judge.Verdict.TheVariants.{Accepted, Limit, Precedence, Hop, Cell, Link}

-- ---- one reply of each kind
lowest_unique : {P : ℕ → Type 0} {m s t : ℕ} → Lowest P m s → Lowest P m t → s ≡ t
lowest_unique {P} {m} {s} {t} p q = at (dec_le (suc s) t) (dec_le (suc t) s)
  where
    at : Dec (suc s ≤ t) → Dec (suc t ≤ s) → s ≡ t
    at (yes h) k = absurd (p.broken (q.kept s h))
    at (no h) (yes k) = absurd (q.broken (p.kept t k))
    at (no h) (no k) = omega arith

-- the first pair: its difference, its p and so its q are one
module _ {P : List ℤ → List ℤ → Type 0} {p q p' q' : List ℤ} (f : FirstPair P p q) (f' : FirstPair P p' q') where
  same_gap : minus_of q p ≡ minus_of q' p'
  same_gap = ⊎_elim (λ h. ⊎_elim (λ k. absurd (before_irreflexive (minus_of q p) (before_trans (minus_of q p) (minus_of q' p') (minus_of q p) h k))) (λ k. sym k.0) (f'.least p q f.holds)) (λ h. h.0) (f.least p' q' f'.holds)

  -- where the differences are the same, the order of p decides
  at_most : {a b : List ℤ} {x y : List ℤ} → x ≡ y → Before x y ⊎ ((x ≡ y) × AtMost a b) → AtMost a b
  at_most {x = x} e (inl h) = absurd (before_irreflexive x (subst (Before x) (sym e) h))
  at_most e (inr h) = h.1

  same_point : p ≡ p'
  same_point = at_most_both p p' (at_most same_gap (f.least p' q' f'.holds)) (at_most (sym same_gap) (f'.least p q f.holds))

  same_end : length p ≡ length q → length p' ≡ length q' → q ≡ q'
  same_end a b = sym (plus_minus p q a) ∙ ap₂ plus_of same_point same_gap ∙ plus_minus p' q' b

pair_unique : {P : List ℤ → List ℤ → Type 0} (c c' : Pair) → FirstPair P (entries c.p) (entries c.q) → FirstPair P (entries c'.p) (entries c'.q) → c ≡ c'
pair_unique c c' f f' = made c.p c.q c'.p c'.q (vector_of (same_point f f')) (vector_of (same_end f f' refl refl))
  where
    made : (p q p' q' : Vector) → p ≡ p' → q ≡ q' → ◌≡◌ {A = Pair} (record { p = p; q = q }) (record { p = p'; q = q' })
    made p q p' q' e h = rw (e, h)

-- the hops of two points are one number
hops_unique : (j : Job) (s : ℕ) (p q : List ℤ) (f f' : ℤ) → Collides j s p q f → Collides j s p q f' → f ≡ f'
hops_unique j s p q f f' m n = one_hops j s m.moving (minus_of q p) f f' m.place n.place

link_unique : (j : Job) (c c' : Collision) → Claims j (Link c) → Claims j (Link c') → c ≡ c'
link_unique j c c' p q = made c.stream c'.stream c.pair c'.pair c.hops c'.hops (lowest_unique p.0 q.0) p.1.0 q.1.0 p.1.1 q.1.1
  where
    made : (s s' : ℕ) (r r' : Pair) (f f' : ℤ) → s ≡ s' → FirstPair (CollidesSome j s) (entries r.p) (entries r.q) → FirstPair (CollidesSome j s') (entries r'.p) (entries r'.q) → Collides j s (entries r.p) (entries r.q) f → Collides j s' (entries r'.p) (entries r'.q) f' → ◌≡◌ {A = Collision} (record { stream = s; pair = r; hops = f }) (record { stream = s'; pair = r'; hops = f' })
    made s s' r r' f f' e a b m n =
        let b' = subst (λ (s : ℕ). FirstPair (CollidesSome j s) (entries r'.p) (entries r'.q)) (sym e) b in
        let n' = subst (λ (s : ℕ). Collides j s (entries r'.p) (entries r'.q) f') (sym e) n in
        let u = pair_unique r r' a b' in
        let n'' = subst (λ (r : Pair). Collides j s (entries r.p) (entries r.q) f') (sym u) n' in
        let h = hops_unique j s (entries r.p) (entries r.q) f f' m n'' in
        rw (e, u, h)

-- the sizes
sizes_unique : (j : Job) (z z' : Extent) → ExtentOf j z → ExtentOf j z' → z ≡ z'
sizes_unique j z z' p q =
    made z.cells z.ticks z.room z'.cells z'.ticks z'.room (p.cells ∙ sym q.cells) (p.ticks ∙ sym q.ticks) (p.room ∙ sym q.room)
  where
    made : (a b c a' b' c' : ℕ) → a ≡ a' → b ≡ b' → c ≡ c' → ◌≡◌ {A = Extent} (record { cells = a; ticks = b; room = c }) (record { cells = a'; ticks = b'; room = c' })
    made a b c a' b' c' e f h = rw (e, f, h)

-- ---- a verdict is told by its number and its values
-- the verdict with a number, 9 to 12 and 0 for accepted, else a limit's
abbrev verdict_of : ℕ → InNumbers → Verdict
verdict_of n a =
    cond (eqb n 0) (Accepted a.extent) (cond (eqb n 9) (Precedence a.stream) (cond (eqb n 10) (Hop a.stream)
    (cond (eqb n 11) (Cell a.pair) (cond (eqb n 12) (Link (record { stream = a.stream; pair = a.pair; hops = a.hops })) (Limit n)))))

-- 3, 6, 7 and 8 are the limits'
limit_of : (j : Job) (r : ℕ) (a : InNumbers) → Claims j (Limit r) → verdict_of r a ≡ Limit r
limit_of j r a c = each_number (λ (n : ℕ). verdict_of n a ≡ Limit n) (limits j) (refl, (refl, (refl, (refl, tt)))) c.1 c.0

-- so a reply that is right is the verdict with its number and values
told : (j : Job) (v : Verdict) → Claims j v → v ≡ verdict_of (number_of v) (in_numbers v)
told j (Accepted z) c = refl
told j (Limit r) c = sym (limit_of j r (in_numbers (Limit r)) c)
told j (Precedence s) c = refl
told j (Hop s) c = refl
told j (Cell c) f = refl
told j (Link c) f = refl

-- and of one number there is one that is right
same : (j : Job) (v : Verdict) (a : InNumbers) → Claims j v → Claims j (verdict_of (number_of v) a) → v ≡ verdict_of (number_of v) a
same j (Accepted z) a p q = ap Accepted (sizes_unique j z a.extent p q)
same j (Limit r) a p q = sym (limit_of j r a p)
same j (Precedence s) a p q = ap Precedence (lowest_unique p q)
same j (Hop s) a p q = ap Hop (lowest_unique p q)
same j (Cell c) a p q = ap Cell (pair_unique c a.pair p q)
same j (Link c) a p q = ap Link (link_unique j c (record { stream = a.stream; pair = a.pair; hops = a.hops }) p q)

-- two replies that are the verdict on one job are the same
pub says_unique : (j : Job) (v w : Verdict) → Says j v → Says j w → v ≡ w
says_unique j v w s t =
    let e = first_unique (and_then (limits j) (rules j)) (number_of v) (number_of w) s.first t.first in
    let h = told j w t.claim ∙ ap (λ (n : ℕ). verdict_of n (in_numbers w)) (sym e) in
    same j v (in_numbers w) s.claim (subst (Claims j) h t.claim) ∙ sym h

-- the room count follows the verdict
pub counts_unique : (Is : Verdict → Type 0) → ((v w : Verdict) → Is v → Is w → v ≡ w) → (r r' : Result ℕ Verdict) → Counts Is r → Counts Is r' → r ≡ r'
counts_unique Is one r r' p q = p.2 ∙ ap room_of (one p.0 q.0 p.1 q.1) ∙ sym q.2
