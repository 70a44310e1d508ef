-- On the first s streams the values are put.
use Rattle.array.specs.Steps.{Put}
use Rattle.array.proofs.work.put_values.Given as goal

abbrev pub invariant-loop-s : goal.invariant-loop-s
invariant-loop-s l = Put l.f.job l.t l.values l.spot.cell l.spot.place l.s l.initial.places l.places
