-- A job that is checked is within the limits.
use mathlib.Core.Path.{refl}
use Rattle.job.proofs.Refusing.{accepted}
use Rattle.array.proofs.loops.loop_of.Goals as goal

pub loop_within-requires : goal.loop_within-requires
loop_within-requires c = accepted _ refl c.in_ok-check.ensures
