-- g divides Hd where no rest is left; where g is 0 the stream is stationary and nothing is asked.
use mathlib.Core.Path.{◌≡◌, sym, subst, ◌∙◌}
use Prim.Native.Nat.{ℕ, ◌%◌, ◌∣◌}
use native.Mathlib.Nat.{dvd_of_mod-eq-zero, mod-eq-zero_of_dvd}
use native.Mathlib.Omega.{arith}
use lib.Dec.{eqb}
use lib.IntN.{nat_abs}
use Rattle.space.specs.Numbers.{Tells}
use Rattle.space.proofs.Machine.{in_range, size_read, never}
use Rattle.space.proofs.Telling.{tells_as, tells_eq}
use Rattle.job.specs.declared.record.Job.{Job}
use Rattle.job.specs.Record.{along}
use Rattle.verdict.specs.Mapping.{H, g}
use Rattle.verdict.proofs.Courses.{none_stationary, stationary_none}
use Rattle.verdict.proofs.Fits.{time_along}
use Rattle.verdict.specs.Rules.{Even}
use Rattle.verdict.proofs.rules.is_even.Goals as goal

pub course_of-course-requires : goal.course_of-course-requires
course_of-course-requires c = c.requires

pub returns-then-course-eq0 : goal.returns-then-course-eq0
returns-then-course-eq0 c =
    let s = c.args in
    record { holds = λ t m. absurd (m (none_stationary s.j s.s (sym c.course_of-course.ensures.hops ∙ c.if-course-eq0.true))); fails = λ t. never t }

pub dot-requires : goal.dot-requires
dot-requires c =
    time_along c.args.j c.requires.0 c.args.s c.requires.1 c.stream_at.ensures

pub nonzero_rem-result : goal.nonzero_rem-result
nonzero_rem-result c =
    omega (arith, c.if-course-eq0.false)

-- g divides n where no rest is left, and is asked to where it is not 0
divides : (j : Job) (s n k : ℕ) → (k ≡ 0 → ⊥) → k ≡ g j s → n ≡ nat_abs (H j (along j s)) → Tells (Even j s) (eqb (n % k) 0)
divides j s n k z e h =
    tells_as
    (λ r m. subst (λ (k : ℕ). k ∣ nat_abs (H j (along j s))) e (subst (λ (n : ℕ). k ∣ n) h (dvd_of_mod-eq-zero k r)))
    (λ f. mod-eq-zero_of_dvd k (subst (λ (k : ℕ). k ∣ n) (sym e) (subst (λ (n : ℕ). g j s ∣ n) (sym h) (f (λ t. z (e ∙ stationary_none j s t))))))
    (tells_eq (n % k) 0)

pub returns : goal.returns
returns c =
    divides c.args.j c.args.s _ _ c.if-course-eq0.false c.course_of-course.ensures.hops
    (size_read (rw c.stream_at.ensures at c.dot.ensures) (in_range c.dot.type_inv) c.unsigned_abs.ensures.value)
