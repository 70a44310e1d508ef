-- The ticks below t are done.
use Rattle.array.proofs.RunLaws.{Running}
use Rattle.array.proofs.run.all_ticks.Given as goal

abbrev pub invariant-loop-t : goal.invariant-loop-t
invariant-loop-t l = Running l.f l.input l.fn.places l.fn.values l.places l.values l.t
