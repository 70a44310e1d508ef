-- Three quotients by g, or by 1 where it is 0; all numbers are small.
use Rattle.std.proofs.Common.{refl, sym, subst}
use Rattle.space.specs.Numbers.{difference}
use Rattle.space.specs.Vectors.{entries, Sized}
use Rattle.space.proofs.Machine.{fit, read, quot, div_need}
use Rattle.space.proofs.VectorLaws.{four}
use Rattle.job.specs.declared.record.Stream.{Stream}
use Rattle.job.proofs.Accepting.{along_sized}
use Rattle.verdict.proofs.Meetings.{time_is, first_is, second_is, divisor_is, steps_are, steps_some}
use Rattle.verdict.proofs.course.course_of.Goals as goal

pub time_and_place-v-requires : goal.time_and_place-v-requires
time_and_place-v-requires c =
    (c.requires.0, subst (λ (t : Stream). Sized difference (entries t.d)) (sym c.stream_at-t.ensures) (along_sized c.args.j c.requires.0 c.args.s c.requires.1))

pub overflow_cast-n : goal.overflow_cast-n
overflow_cast-n c =
    let r = c.requires in
    fit (steps_are c.args.j c.args.s r.0 r.1 c.stream_at-t.ensures c.time_and_place-v.ensures c.unsigned_abs.ensures.value c.unsigned_abs-2.ensures.value c.gcd-g.ensures c.max-n.ensures)

pub nonzero_div-result : goal.nonzero_div-result
nonzero_div-result c =
    let j = c.args.j in
    let s = c.args.s in
    let r = c.requires in
    let e = c.stream_at-t.ensures in
    let p = c.time_and_place-v.ensures in
    div_need (time_is j s r.0 r.1 e p) (steps_are j s r.0 r.1 e p c.unsigned_abs.ensures.value c.unsigned_abs-2.ensures.value c.gcd-g.ensures c.max-n.ensures) (steps_some j s)

pub nonzero_div-result-2 : goal.nonzero_div-result-2
nonzero_div-result-2 c =
    let j = c.args.j in
    let s = c.args.s in
    let r = c.requires in
    let e = c.stream_at-t.ensures in
    let p = c.time_and_place-v.ensures in
    div_need (first_is j s r.0 r.1 e p) (steps_are j s r.0 r.1 e p c.unsigned_abs.ensures.value c.unsigned_abs-2.ensures.value c.gcd-g.ensures c.max-n.ensures) (steps_some j s)

pub nonzero_div-result-3 : goal.nonzero_div-result-3
nonzero_div-result-3 c =
    let j = c.args.j in
    let s = c.args.s in
    let r = c.requires in
    let e = c.stream_at-t.ensures in
    let p = c.time_and_place-v.ensures in
    div_need (second_is j s r.0 r.1 e p) (steps_are j s r.0 r.1 e p c.unsigned_abs.ensures.value c.unsigned_abs-2.ensures.value c.gcd-g.ensures c.max-n.ensures) (steps_some j s)

pub returns : goal.returns
returns c =
    let j = c.args.j in
    let s = c.args.s in
    let r = c.requires in
    let e = c.stream_at-t.ensures in
    let p = c.time_and_place-v.ensures in
    let steps = steps_are j s r.0 r.1 e p c.unsigned_abs.ensures.value c.unsigned_abs-2.ensures.value c.gcd-g.ensures c.max-n.ensures in
    record {
      unit = four (read (quot (time_is j s r.0 r.1 e p) steps)) (read (quot (first_is j s r.0 r.1 e p) steps)) (read (quot (second_is j s r.0 r.1 e p) steps)) refl;
      hops = divisor_is j s r.0 r.1 e p c.unsigned_abs.ensures.value c.unsigned_abs-2.ensures.value c.gcd-g.ensures;
    }
