-- The sum of the w of the first s streams.
use Rattle.std.proofs.Common.{◌≡◌, ℕ, ◌+◌, ◌<◌, ap, ap₂, sym, ◌∙◌, arith, nat_abs}
use Rattle.space.proofs.Machine.{held, held_as}
use Rattle.space.proofs.VectorLaws.{unfour}
use Rattle.job.specs.declared.record.Job.{Job}
use Rattle.job.specs.Limits.{Acceptable}
use Rattle.verdict.specs.Mapping.{delay, delays}
use Rattle.verdict.specs.Courses.{CourseOf}
use Rattle.verdict.specs.declared.course.Course.{Course}
use Rattle.verdict.proofs.Meetings.{unit_sized}
use Rattle.verdict.proofs.SizeLaws.{delay_up, delay_size, delays_next, delays_size}
use Rattle.verdict.proofs.extents.all_delays.Goals as goal

-- the size that is added is the stream's w
added : {j : Job} {s n : ℕ} {c : Course} → Acceptable j → s < j.m → CourseOf j s c → n ≡ nat_abs (held c.unit.x0) → n ≡ nat_abs (delay j s)
added {j} {s} a h w e = e ∙ ap nat_abs (held_as (unfour w.unit).0 (unit_sized j s a h).each.0 tt)

pub overflow_add-sum : goal.overflow_add-sum
overflow_add-sum c =
    let j = c.args.j in
    let a = c.requires.0 in
    let s = c.loop-s.s in
    let w = added a c.loop-s-test.true c.course_of.ensures c.unsigned_abs-sum.ensures.value in
    omega (arith, a.shaped.streams, delays_size j a s c.loop-s.auto.s-end, w, delay_size j s a c.loop-s-test.true)

pub loop-s-preserved : goal.loop-s-preserved
loop-s-preserved c =
    let j = c.args.j in
    let s = c.loop-s.s in
    let h = c.loop-s-test.true in
    ap₂ ◌+◌ c.loop-s.invariant (added c.requires.0 h c.course_of.ensures c.unsigned_abs-sum.ensures.value ∙ delay_up j s (c.requires.1 s h)) ∙ sym (delays_next j s)

pub returns : goal.returns
returns c =
    let j = c.args.j in
    let e : c.loop-s.s ≡ j.m = omega arith in
    c.loop-s.invariant ∙ ap (delays j) e
