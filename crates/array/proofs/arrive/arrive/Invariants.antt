-- The bands of the first s streams have taken what arrives.
use Rattle.array.specs.Steps.{Arrived}
use Rattle.array.proofs.arrive.arrive.Given as goal

abbrev pub invariant-loop-s : goal.invariant-loop-s
invariant-loop-s l = Arrived l.f.job l.t l.s l.initial.places l.places
