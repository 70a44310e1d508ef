-- Cells, ticks and room of a record.
use mathlib.Core.Path.{refl}
use Rattle.space.specs.Vectors.{dot_of, times_of}
use Rattle.space.specs.Divisors.{gcd_of}
use Rattle.space.specs.Boxes.{count_of, corner_of, least_of, greatest_of}
use Rattle.job.specs.declared.record.Job.{Job}
use Rattle.verdict.specs.declared.judge.Extent.{Extent}
use Rattle.verdict.specs.Extents.{cells, ticks, room, ExtentOf}

-- cells, ticks and room
unfoldable pub size : (j : Job) → (z : Extent) × ExtentOf j z
unfolding dot_of times_of corner_of least_of greatest_of count_of gcd_of
size j = (record { cells = cells j; ticks = ticks j; room = room j }, record { cells = refl; ticks = refl; room = refl })
