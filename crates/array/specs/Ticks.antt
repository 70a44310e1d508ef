-- 'One tick t, for stream s with delay w': arrivals, incoming values, new values, and what the places and the value table then hold. (REFERENCE 4.5 to 4.7)
use Rattle.std.specs.Prelude.{◌≡◌, Bool, cond, ◌&&◌, List, ℕ, zero, suc, ◌%◌, ◌<◌, eqb, length, drop, Option, None, Some}
use Rattle.space.specs.Boxes.{back_of, given}
use Rattle.job.specs.declared.record.Job.{Job}
use Rattle.verdict.specs.Mapping.{hop, w}
use Rattle.job.specs.Record.{points}
use Rattle.tables.specs.Tables.{entry_for, previous}
use Rattle.cell.specs.Cells.{work}
use Rattle.verdict.specs.Extents.{rectangle, cells, room}
use Rattle.frame.specs.Frames.{tick_of, cell_of, in_place}

-- the last of the first n numbers that passes a test
unfoldable pub last_of : (ℕ → Bool) → ℕ → Option ℕ
last_of test zero = None
last_of test (suc n) = cond (test n) (Some n) (last_of test n)

-- 'a box point i has Si = x and Hi = least H + t': its place; by the cell rule an accepted job has no two
abbrev pub works : Job → ℕ → ℕ → ℕ → Bool
works j t x k = eqb (tick_of j k) t && eqb (cell_of j k) x

abbrev pub point_at : Job → ℕ → ℕ → Option ℕ
point_at j t x = last_of (works j t x) (points j)

-- 'the arrival at cell x is place t mod w of cell x - e (of x itself if stationary), or 0 where x - e is outside'
unfoldable pub arrival : Job → ℕ → List ℕ → ℕ → ℕ → ℕ
arrival j t places s x = given (back_of (rectangle j) (hop j s) x) 0 (λ (y : ℕ). in_place j places s y (t % w j s))

-- 'the point's incoming value is the arrival if i - d is in the box, else the input table's entry for s and i'
unfoldable pub incoming : Job → List ℕ → ℕ → List ℕ → ℕ → ℕ → ℕ → ℕ
incoming j input t places s x k = given (previous j s k) (entry_for j input s k) (λ (q : ℕ). arrival j t places s x)

-- 'The rules give the new values'
abbrev pub fresh : Job → List ℕ → ℕ → List ℕ → ℕ → ℕ → ℕ → ℕ
fresh j input t places s x k = work j s (λ (u : ℕ). incoming j input t places u x k)

-- 'each is stored at place t mod w of x. A cell with no point stores the arrival there'
unfoldable pub stored : Job → List ℕ → ℕ → List ℕ → ℕ → ℕ → ℕ
stored j input t places s x = given (point_at j t x) (arrival j t places s x) (λ (k : ℕ). fresh j input t places s x k)

-- a tick: 'It alters only the values of points worked in that tick and the one place per stream and cell that it stores to'. Both tables after it are told by the places before it: 'All arrivals of a tick are read before any place is written'; and by `beyond` 'A run alters no place past the first R'
pub record Ticked (j : Job) (input : List ℕ) (t : ℕ) (places values places' values' : List ℕ) : Type 0 where
  pub length_places : length places' ≡ length places
  pub length_values : length values' ≡ length values
  pub worked : (s k : ℕ) → s < j.m → k < points j → tick_of j k ≡ t → entry_for j values' s k ≡ fresh j input t places s (cell_of j k) k
  pub spared : (s k : ℕ) → s < j.m → k < points j → (tick_of j k ≡ t → ⊥) → entry_for j values' s k ≡ entry_for j values s k
  pub stores : (s x : ℕ) → s < j.m → x < cells j → in_place j places' s x (t % w j s) ≡ stored j input t places s x
  pub keeps : (s x r : ℕ) → s < j.m → x < cells j → r < w j s → (r ≡ t % w j s → ⊥) → in_place j places' s x r ≡ in_place j places s x r
  pub beyond : drop (room j) places' ≡ drop (room j) places
