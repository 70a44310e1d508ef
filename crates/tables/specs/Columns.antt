-- A table of the right size, and a column of it that is worked.
use Rattle.std.specs.Prelude.{◌≡◌, List, ℕ, ◌*◌, ◌<◌, length, get_or}
use Rattle.job.specs.declared.record.Job.{Job}
use Rattle.job.specs.Limits.{Acceptable}
use Rattle.job.specs.Record.{points}
use Rattle.tables.specs.Tables.{entry_for}
use Rattle.cell.specs.Cells.{work}

-- the job is acceptable, n is its point count, and the table has a column for each point
pub record Ready (j : Job) (table : List ℕ) (n : ℕ) : Type 0 where
  pub good : Acceptable j
  pub size : length table ≡ j.m * points j
  pub count : n ≡ points j

-- column k is worked for the first n streams from what came in, and the other columns are as before
pub record Column (j : Job) (k : ℕ) (got before : List ℕ) (n : ℕ) (after : List ℕ) : Type 0 where
  pub size : length after ≡ j.m * points j
  pub here : (s : ℕ) → s < n → entry_for j after s k ≡ work j s (λ (u : ℕ). get_or got u 0)
  pub others : (s q : ℕ) → s < j.m → q < points j → (q ≡ k → ⊥) → entry_for j after s q ≡ entry_for j before s q
