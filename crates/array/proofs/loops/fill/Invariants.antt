-- The columns before k are what the loop leaves, and p is the point at k.
use Rattle.space.specs.Vectors.{entries}
use Rattle.space.specs.Boxes.{PointAt}
use Rattle.job.specs.Record.{box}
use Rattle.array.proofs.LoopLaws.{LoopedTo}
use Rattle.array.proofs.loops.fill.Given as goal

abbrev pub invariant-loop-k : goal.invariant-loop-k
invariant-loop-k l = record { looped : LoopedTo l.j l.input l.k l.values; here : PointAt (box l.j) l.k (entries l.p) }
