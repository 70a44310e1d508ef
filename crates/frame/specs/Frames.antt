-- Where a point is worked, and what a place holds: 'a box point i has Si = x and Hi = least H + t'; 'Room layout: stream by stream, cell by cell, w places each'. (REFERENCE 4.1 to 4.3, 4.6)
use Rattle.std.specs.Prelude.{List, ℕ, ◌+◌, ◌*◌, get_or}
use Rattle.space.specs.Numbers.{steps}
use Rattle.space.specs.Boxes.{place_of, point_of}
use Rattle.job.specs.declared.record.Job.{Job}
use Rattle.job.specs.Record.{box}
use Rattle.verdict.specs.Mapping.{H, S, w, delays}
use Rattle.verdict.specs.Extents.{rectangle, cells, clock}

-- the tick and the cell of the point at place k
unfoldable pub tick_of : Job → ℕ → ℕ
tick_of j k = steps (clock j).low (H j (point_of (box j) k))

unfoldable pub cell_of : Job → ℕ → ℕ
cell_of j k = place_of (rectangle j) (S j (point_of (box j) k))

-- where the band of stream s begins
abbrev pub from : Job → ℕ → ℕ
from j s = cells j * delays j s

-- what place r of cell x holds for stream s
abbrev pub in_place : Job → List ℕ → ℕ → ℕ → ℕ → ℕ
in_place j places s x r = get_or places (from j s + (x * w j s + r)) 0
