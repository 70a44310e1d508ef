-- 'Tables hold stream by stream, points in box order, as u32.': how long they are, where an entry stands, and the point before one. (REFERENCE 4.4)
use Rattle.std.specs.Prelude.{◌≡◌, List, ℕ, ◌+◌, ◌*◌, get_or, Option}
use Rattle.space.specs.Boxes.{back_of}
use Rattle.job.specs.declared.record.Job.{Job}
use Rattle.job.specs.Record.{box, along, points}

-- 13: 'input or value table not m × points long', of tables so long
abbrev pub Long : Job → ℕ → ℕ → Type 0
Long j input values = (input ≡ j.m * points j) × (values ≡ j.m * points j)

-- the entry of a table for stream s and the point at place k
abbrev pub entry_for : Job → List ℕ → ℕ → ℕ → ℕ
entry_for j table s k = get_or table (s * points j + k) 0

-- the place of i - d, where it is in the box, for the point i at place k
abbrev pub previous : Job → ℕ → ℕ → Option ℕ
previous j s k = back_of (box j) (along j s) k
