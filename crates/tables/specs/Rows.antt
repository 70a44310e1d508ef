-- 'The row of one stream comes back as a part of the caller's own table, no copy; for a job refused by 1 to 8, a wrong table length or a stream number ≥ m it is the empty part at the front': what it holds (REFERENCE 4.11)
use Rattle.std.specs.Prelude.{◌≡◌, ◌⊎◌, List, [], ℕ, ◌*◌, ◌<◌, length, take, drop}
use Rattle.job.specs.declared.record.Job.{Job}
use Rattle.job.specs.Limits.{Acceptable}
use Rattle.job.specs.Record.{points}

-- the job is acceptable, the table is m × points long and there is such a stream
abbrev pub HasRow : Job → List ℕ → ℕ → Type 0
HasRow j table s = Acceptable j × (length table ≡ j.m * points j) × (s < j.m)

-- where there is a row, its points values; else none
abbrev pub Row : Job → List ℕ → ℕ → List ℕ → Type 0
Row j table s row = (HasRow j table s × (row ≡ take (points j) (drop (s * points j) table))) ⊎ ((HasRow j table s → ⊥) × (row ≡ []))
