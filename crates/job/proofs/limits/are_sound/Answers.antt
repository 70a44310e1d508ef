-- Each stream is asked where its number is below m.
use mathlib.Core.Bool.{Bool}
use Prim.Native.Nat.{ℕ, ◌<◌, ◌≤◌}
use native.Mathlib.Omega.{arith}
use lib.Dec.{leb}
use Rattle.space.specs.Numbers.{Tells}
use Rattle.space.proofs.Telling.{tells_as, tells_both, tells_neither, tells_le}
use Rattle.job.specs.Limits.{Sound}
use Rattle.job.specs.declared.record.Stream.{Stream}
use Rattle.job.specs.declared.record.Job.{Job}
use Rattle.job.proofs.limits.are_sound.Goals as goal
use Rattle.job.proofs.limits.are_sound.Goals.{then-m-le0, else-m-le0, then-is_sound+then-m-le1, then-is_sound+else-m-le1, else-is_sound, then-is_sound-2+then-m-le2, then-is_sound-2+else-m-le2, else-is_sound-2}

-- what is asked of stream i
abbrev Keeps : ℕ → ℕ → Stream → Type 0
Keeps m i s = i < m → Sound m s

abbrev Two : Job → Type 0
Two j = Keeps j.m 0 j.s0 × Keeps j.m 1 j.s1

abbrev Three : Job → Type 0
Three j = Two j × Keeps j.m 2 j.s2

-- of a stream that is not used nothing is asked, and of one that is used all
idle : {Q : Type 0} (i m : ℕ) → m ≤ i → Tells (i < m → Q) (leb m i)
idle i m h = record { holds = λ e k. absurd (omega arith); fails = λ e. absurd ((tells_le m i).fails e h) }

used : {Q : Type 0} {r : Bool} (i m : ℕ) → i < m → Tells Q r → Tells (i < m → Q) r
used i m h t = tells_as (λ q k. q) (λ f. f h) t

pub returns-then-m-le3 : goal.returns-then-m-le3
returns-then-m-le3 c =
    let j = c.args.j in
    let m = j.m in
    let one : Tells (Keeps m 0 j.s0) c.if-m-le0.value =
    elim c.if-m-le0.branch [
      | then-m-le0 w ↦ rw w.value-is (idle 0 m w.if-m-le0.true)
      | else-m-le0 w ↦ rw w.value-is (used 0 m w.if-m-le0.false w.is_sound.ensures)
    ] in
    let two : Tells (Two j) c.if-is_sound.value =
    elim c.if-is_sound.branch [
      | then-is_sound+then-m-le1 w ↦ rw w.value-is (tells_both one w.if-is_sound.true (idle 1 m w.if-m-le1.true))
      | then-is_sound+else-m-le1 w ↦ rw w.value-is (tells_both one w.if-is_sound.true (used 1 m w.if-m-le1.false w.is_sound-else-m-le1.ensures))
      | else-is_sound w ↦ rw w.value-is (tells_neither one w.if-is_sound.false)
    ] in
    let three : Tells (Three j) c.if-is_sound-2.value =
    elim c.if-is_sound-2.branch [
      | then-is_sound-2+then-m-le2 w ↦ rw w.value-is (tells_both two w.if-is_sound-2.true (idle 2 m w.if-m-le2.true))
      | then-is_sound-2+else-m-le2 w ↦ rw w.value-is (tells_both two w.if-is_sound-2.true (used 2 m w.if-m-le2.false w.is_sound-else-m-le2.ensures))
      | else-is_sound-2 w ↦ rw w.value-is (tells_neither two w.if-is_sound-2.false)
    ] in
    tells_as (λ h. (h.0.0.0, (h.0.0.1, (h.0.1, (h.1, tt))))) (λ h. (((h.0, h.1.0), h.1.1.0), h.1.1.1.0))
    (tells_both three c.if-is_sound-3.true (idle 3 m c.if-m-le3.true))
