-- What a tick asks for and what its steps leave; contracts of functions that serve the array cite these.
use Rattle.std.specs.Prelude.{◌≡◌, List, ℕ, ◌*◌, ◌%◌, ◌<◌, ◌≤◌, length, drop}
use Rattle.space.specs.Boxes.{back_of, given}
use Rattle.job.specs.declared.record.Job.{Job}
use Rattle.job.specs.Record.{points}
use Rattle.verdict.specs.Extents.{rectangle, cells, room}
use Rattle.verdict.specs.Mapping.{hop, w}
use Rattle.tables.specs.Tables.{entry_for, previous}
use Rattle.cell.specs.Cells.{work}
use Rattle.bands.specs.Bands.{at}
use Rattle.frame.specs.Frames.{tick_of, cell_of, from, in_place}
use Rattle.frame.specs.Framing.{Framed, Timed}
use Rattle.frame.specs.declared.Frame.{Frame}
use Rattle.array.specs.Ticks.{last_of, works, arrival, fresh}

-- the frame of a job, and a table with a column for each point
pub record Tabled (f : Frame) (table : List ℕ) : Type 0 where
  pub framed : Framed f
  pub size : length table ≡ f.job.m * points f.job

-- the places suffice
pub record Roomy (f : Frame) (places : List ℕ) : Type 0 where
  pub enough : room f.job ≤ length places

-- what a tick is lent: the input and the value table, places that suffice, and the timetable
abbrev pub Supplied : Frame → List ℕ → List ℕ → List ℕ → List ℕ → Type 0
Supplied f input values places timetable = Tabled f input × Tabled f values × Roomy f places × Timed f.job timetable

-- the band of stream s, with the places that it has
pub record BandOf (f : Frame) (s : ℕ) (band : List ℕ) : Type 0 where
  pub stream : s < f.job.m
  pub size : length band ≡ cells f.job * w f.job s

-- place slot of the cells of a band is rewritten by f, the other places stay
pub record Slot (j : Job) (s slot : ℕ) (f : ℕ → ℕ) (before after : List ℕ) : Type 0 where
  pub size : length after ≡ length before
  pub here : (x : ℕ) → x < cells j → at (w j s) after x slot ≡ f x
  pub others : (x r : ℕ) → x < cells j → r < w j s → (r ≡ slot → ⊥) → at (w j s) after x r ≡ at (w j s) before x r

-- what arrives at cell x in the band of stream s in tick t
abbrev pub in_band : Job → ℕ → ℕ → List ℕ → ℕ → ℕ
in_band j t s band x = given (back_of (rectangle j) (hop j s) x) 0 (λ (y : ℕ). at (w j s) band y (t % w j s))

-- the bands of the first n streams have taken what arrives
pub record Arrived (j : Job) (t n : ℕ) (places places' : List ℕ) : Type 0 where
  pub size : length places' ≡ length places
  pub arrives : (s x : ℕ) → s < n → x < cells j → in_place j places' s x (t % w j s) ≡ arrival j t places s x
  pub keeps : (s x r : ℕ) → s < n → x < cells j → r < w j s → (r ≡ t % w j s → ⊥) → in_place j places' s x r ≡ in_place j places s x r
  pub beyond : drop (from j n) places' ≡ drop (from j n) places

-- what the point at place k takes in at cell x: what stands there, or the input
abbrev pub taken : Job → List ℕ → ℕ → List ℕ → ℕ → ℕ → ℕ → ℕ
taken j input t places s x k = given (previous j s k) (entry_for j input s k) (λ (q : ℕ). in_place j places s x (t % w j s))

-- the values of the point at place k stand at cell x on the first n streams; the other places stay
pub record Put (j : Job) (t : ℕ) (values : List ℕ) (x k n : ℕ) (places places' : List ℕ) : Type 0 where
  pub size : length places' ≡ length places
  pub stores : (s : ℕ) → s < n → in_place j places' s x (t % w j s) ≡ entry_for j values s k
  pub keeps : (s y r : ℕ) → s < j.m → y < cells j → r < w j s → (s < n → y ≡ x → r ≡ t % w j s → ⊥) → in_place j places' s y r ≡ in_place j places s y r
  pub beyond : drop (room j) places' ≡ drop (room j) places

-- the point at place k is worked from what it takes in, and its values stand at its cell
pub record Point (j : Job) (input : List ℕ) (t k : ℕ) (places values places' values' : List ℕ) : Type 0 where
  pub length_values : length values' ≡ length values
  pub worked : (s : ℕ) → s < j.m → entry_for j values' s k ≡ work j s (λ (u : ℕ). taken j input t places u (cell_of j k) k)
  pub spared : (s q : ℕ) → s < j.m → q < points j → (q ≡ k → ⊥) → entry_for j values' s q ≡ entry_for j values s q
  pub put : Put j t values' (cell_of j k) k j.m places places'

-- of the first n points those of tick t are worked, from places and values before the tick
pub record Points (j : Job) (input : List ℕ) (t n : ℕ) (places values places' values' : List ℕ) : Type 0 where
  pub length_places : length places' ≡ length places
  pub length_values : length values' ≡ length values
  pub worked : (s k : ℕ) → s < j.m → k < n → tick_of j k ≡ t → entry_for j values' s k ≡ fresh j input t places s (cell_of j k) k
  pub spared : (s k : ℕ) → s < j.m → k < points j → (k < n → tick_of j k ≡ t → ⊥) → entry_for j values' s k ≡ entry_for j values s k
  pub stores : (s x : ℕ) → s < j.m → x < cells j → in_place j places' s x (t % w j s) ≡ given (last_of (works j t x) n) (arrival j t places s x) (λ (k : ℕ). fresh j input t places s x k)
  pub keeps : (s x r : ℕ) → s < j.m → x < cells j → r < w j s → (r ≡ t % w j s → ⊥) → in_place j places' s x r ≡ in_place j places s x r
  pub beyond : drop (room j) places' ≡ drop (room j) places
