-- The gcd is 1 where what `gcd_of_entries` answers, the only one, is 1.
use Prim.Native.Nat.{◌≤◌}
use Rattle.space.specs.Numbers.{Tells}
use Rattle.space.specs.Vectors.{entries, Sized}
use Rattle.space.specs.Divisors.{GcdOf, sizes_of}
use Rattle.space.specs.Order.{Forward}
use Rattle.space.proofs.DivisorLaws.{tells_gcd}
use Rattle.space.proofs.Telling.{tells_as, tells_both, tells_neither, tells_le}
use Rattle.job.specs.Limits.{Ruled, step_limit}
use Rattle.job.specs.declared.record.Stream.{Stream}
use Rattle.job.proofs.limits.is_sound.Goals as goal
use Rattle.job.proofs.limits.is_sound.Goals.{then-is_sized, else-is_sized, then-is_forward, else-is_forward, then-gcd_of_entries-eq1, else-gcd_of_entries-eq1}

abbrev Two : Stream → Type 0
Two s = Sized step_limit (entries s.d) × Forward (entries s.d)

abbrev Three : Stream → Type 0
Three s = Two s × GcdOf (sizes_of (entries s.d)) 1

abbrev Four : Stream → Type 0
Four s = Three s × (s.kind ≤ 1)

pub returns-else-s-le1 : goal.returns-else-s-le1
returns-else-s-le1 c =
    let s = c.args.s in
    let two : Tells (Two s) c.if-is_sized.value =
    elim c.if-is_sized.branch [
      | then-is_sized w ↦ rw w.value-is (tells_both c.is_sized.ensures w.if-is_sized.true w.is_forward.ensures)
      | else-is_sized w ↦ rw w.value-is (tells_neither c.is_sized.ensures w.if-is_sized.false)
    ] in
    let three : Tells (Three s) c.if-is_forward.value =
    elim c.if-is_forward.branch [
      | then-is_forward w ↦ rw w.value-is (tells_both two w.if-is_forward.true (tells_gcd 1 w.gcd_of_entries.ensures))
      | else-is_forward w ↦ rw w.value-is (tells_neither two w.if-is_forward.false)
    ] in
    let four : Tells (Four s) c.if-gcd_of_entries-eq1.value =
    elim c.if-gcd_of_entries-eq1.branch [
      | then-gcd_of_entries-eq1 w ↦ rw w.value-is (tells_both three w.if-gcd_of_entries-eq1.true (tells_le s.kind 1))
      | else-gcd_of_entries-eq1 w ↦ rw w.value-is (tells_neither three w.if-gcd_of_entries-eq1.false)
    ] in
    tells_as
    (λ h. record { small = h.0.0.0.0; forward = h.0.0.0.1; coprime = h.0.0.1; kind = h.0.1; ruled = h.1 })
    (λ h. ((((h.small, h.forward), h.coprime), h.kind), h.ruled))
    (tells_neither {Q = Ruled c.args.m s} four c.if-s-le1.false)
