-- The box is solid where its low corner is one of its points, and what is small enough to be counted is small.
use mathlib.Core.Path.{◌≡◌, refl}
use mathlib.Core.Bool.{Bool}
use Prim.Native.Nat.{ℕ, ◌≤◌}
use Rattle.space.specs.Numbers.{Tells}
use Rattle.space.specs.Vectors.{entries, Sized}
use Rattle.space.specs.Boxes.{In, box_of, count_of}
use Rattle.space.specs.declared.boxes.Bounds.{Bounds}
use Rattle.space.proofs.BoxLaws.{in_solid, solid_in}
use Rattle.space.proofs.Telling.{tells_as, tells_both, tells_neither, tells_le}
use Rattle.job.specs.Limits.{Boxed, bound_limit, point_limit}
use Rattle.job.proofs.limits.is_boxed.Goals as goal
use Rattle.job.proofs.limits.is_boxed.Goals.{then-is_sized, else-is_sized, then-is_sized-2, else-is_sized-2}

abbrev Sizes : Bounds → Type 0
Sizes b = Sized bound_limit (entries b.low) × Sized bound_limit (entries b.high)

abbrev Corner : Bounds → Type 0
Corner b = Sizes b × In (box_of b) (entries b.low)

boxed : (b : Bounds) {n : ℕ} {r : Bool} → n ≡ count_of (box_of b) → Tells (Corner b × (n ≤ point_limit)) r → Tells (Boxed b) r
boxed b e t =
    tells_as
    (λ h. record { low = h.0.0.0; high = h.0.0.1; solid = in_solid (box_of b) _ h.0.1; points = rw e at h.1 })
    (λ h. (((h.low, h.high), solid_in (box_of b) h.solid), rw (← e) at h.points)) t

pub returns-then-contains : goal.returns-then-contains
returns-then-contains c =
    let sizes : Tells (Sizes c.args.b) c.if-is_sized.value =
    elim c.if-is_sized.branch [
      | then-is_sized w ↦ rw w.value-is (tells_both c.is_sized.ensures w.if-is_sized.true w.is_sized-then-is_sized.ensures)
      | else-is_sized w ↦ rw w.value-is (tells_neither c.is_sized.ensures w.if-is_sized.false)
    ] in
    let corner : Tells (Corner c.args.b) c.if-is_sized-2.value =
    elim c.if-is_sized-2.branch [
      | then-is_sized-2 w ↦ rw w.value-is (tells_both sizes w.if-is_sized-2.true w.contains.ensures)
      | else-is_sized-2 w ↦ rw w.value-is (tells_neither sizes w.if-is_sized-2.false)
    ] in
    boxed c.args.b c.count.ensures (tells_both corner c.if-contains.true (tells_le _ point_limit))

pub returns-else-contains : goal.returns-else-contains
returns-else-contains c =
    let sizes : Tells (Sizes c.args.b) c.if-is_sized.value =
    elim c.if-is_sized.branch [
      | then-is_sized w ↦ rw w.value-is (tells_both c.is_sized.ensures w.if-is_sized.true w.is_sized-then-is_sized.ensures)
      | else-is_sized w ↦ rw w.value-is (tells_neither c.is_sized.ensures w.if-is_sized.false)
    ] in
    let corner : Tells (Corner c.args.b) c.if-is_sized-2.value =
    elim c.if-is_sized-2.branch [
      | then-is_sized-2 w ↦ rw w.value-is (tells_both sizes w.if-is_sized-2.true w.contains.ensures)
      | else-is_sized-2 w ↦ rw w.value-is (tells_neither sizes w.if-is_sized-2.false)
    ] in
    boxed c.args.b refl (tells_neither corner c.if-contains.false)
