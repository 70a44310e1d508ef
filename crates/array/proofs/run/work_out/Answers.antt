-- An accepted job has a frame; what the checks refuse is the reply, with nothing altered.
use mathlib.Core.Path.{refl}
use mathlib.Core.Logic.{inr}
use Rattle.std.proofs.lemmas.Result.{err_from_is_err_and}
use Rattle.checks.proofs.ReplyLaws.{lacks_refuses}
use Rattle.frame.proofs.FrameLaws.{accepted_runs}
use Rattle.array.proofs.run.work_out.Goals as goal

pub returns-in_err-ticks : goal.returns-in_err-ticks
returns-in_err-ticks c =
    let p = err_from_is_err_and c.from_residual.result c.from_residual.ensures.1 in
    rw (p.1, p.2) (inr (lacks_refuses (rw c.in-Accepted.is at c.requires) c.in_err-ticks.ensures (refl, refl)))

pub frame_of-f-requires : goal.frame_of-f-requires
frame_of-f-requires c = accepted_runs (rw c.in-Accepted.is at c.requires)
