-- The first k points are done, whatever the places were from which all has arrived.
use Rattle.array.proofs.TickLaws.{Working}
use Rattle.array.proofs.work.work.Given as goal

abbrev pub invariant-loop-k : goal.invariant-loop-k
invariant-loop-k l = Working l.f.job l.input l.t l.initial.places l.initial.values l.k l.places l.values
