-- What is left to put are the coordinates from here on: they fit, and with them the point is whole.
use Rattle.std.proofs.Common.{drop}
use Rattle.line.proofs.Coordinates.{Left}
use Rattle.line.specs.Fields.{fields_bytes, coordinates}
use Rattle.line.proofs.said.put_point.Given as goal

abbrev pub invariant-loop-x : goal.invariant-loop-x
invariant-loop-x l =
    Left l.initial.out l.initial.next (fields_bytes (coordinates l.initial.before l.shown)) l.out l.next l.before (drop l.x-index l.shown)
