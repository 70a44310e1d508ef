-- The sum of the w of the first s streams.
use Rattle.std.proofs.Common.{◌≡◌}
use Rattle.verdict.specs.Mapping.{delays}
use Rattle.verdict.proofs.extents.all_delays.Given as goal

abbrev pub invariant-loop-s : goal.invariant-loop-s
invariant-loop-s l = l.sum ≡ delays l.j l.s
