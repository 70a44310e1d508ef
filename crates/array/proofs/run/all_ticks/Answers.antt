-- The ticks below t are done.
use mathlib.Core.Path.{refl}
use Rattle.array.specs.Runs.Ran.{ready}
use Rattle.array.proofs.RunLaws.{run_step}
use Rattle.array.proofs.run.all_ticks.Goals as goal

pub loop-t-init : goal.loop-t-init
loop-t-init c = record { size = refl; tabled = c.requires.1; ran = ready }

pub loop-t-preserved : goal.loop-t-preserved
loop-t-preserved c = run_step c.args.f _ _ _ c.loop-t.invariant c.one_tick.ensures
