-- A point whose tick is another's leaves all as it is; one of this tick is worked.
use Rattle.std.proofs.Common.{◌<◌, arith, sym, ◌∙◌}
use Rattle.job.specs.Record.{points as points_of}
use Rattle.array.proofs.TickLaws.{working_start, working_idle, working_step, working_as, working_end}
use Rattle.array.proofs.work.work.Goals as goal
use Rattle.array.proofs.work.work.Goals.{then-timetable-k, else-timetable-k}

pub loop-k-init : goal.loop-k-init
loop-k-init c = working_start

pub loop-k-preserved : goal.loop-k-preserved
loop-k-preserved c =
    let q = c.requires in
    let done = c.loop-k.invariant in
    let low : c.loop-k.k < points_of c.args.f.job = omega (arith, c.loop-k-test.true, q.0.framed.points) in
    let tick = q.3.ticks c.loop-k.k low in
    elim c.if-timetable-k.branch [
      | then-timetable-k w ↦ working_as w.places-is w.values-is (working_step q.0.framed.runnable low (sym tick ∙ w.if-timetable-k.true) done w.work_point.ensures)
      | else-timetable-k w ↦ working_as w.places-is w.values-is (working_idle (λ e. w.if-timetable-k.false (tick ∙ e)) done)
    ]

pub returns : goal.returns
returns c =
    working_end (omega (arith, c.loop-k-test.false, c.loop-k.auto.k-end, c.requires.0.framed.points)) c.loop-k.invariant
