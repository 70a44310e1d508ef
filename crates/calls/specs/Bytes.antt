-- What is said of job bytes: of the number that refuses them, 1 to 8, or of the job that they are. Each function on bytes is stated by what its like is stated by on a record. (REFERENCE 5.2)
use Rattle.std.specs.Prelude.{◌≡◌, ◌⊎◌, List, [], ℕ, Option, Result, Ok, Err}
use Rattle.space.specs.declared.vector.Vector.{Vector}
use Rattle.job.specs.declared.record.Job.{Job}
use Rattle.reader.specs.Reading.{Reads}
use Rattle.job.specs.declared.refusal.Refusal.{Refusal}
use Rattle.job.specs.Refusals.{number_of as refusal_number}
use Rattle.job.specs.Record.{points}
use Rattle.verdict.specs.Verdicts.{no_extent, in_numbers, number_of, Says}
use Rattle.verdict.specs.Rooms.{Counts}
use Rattle.verdict.specs.declared.judge.Verdict.{Verdict}
use Rattle.verdict.specs.declared.judge.Verdict.TheVariants.{Limit}
use Rattle.checks.specs.declared.Undone.{Undone}
use Rattle.checks.specs.declared.Undone.TheVariants.{Refused}
use Rattle.checks.specs.declared.Work.{Work}
use Rattle.checks.specs.declared.Work.TheVariants.{Run, Tick}
use Rattle.tables.specs.Rows.{Row}
use Rattle.array.specs.Runs.{Does}
use Rattle.array.specs.Loops.{Loops}
use Rattle.array.specs.declared.loops.Unlooped.{Unlooped}
use Rattle.array.specs.declared.loops.Unlooped.TheVariants as Loop
use Rattle.array.specs.Lookups.{Looks}
use Rattle.line.specs.Lines.{line_of, Writes}
use Rattle.calls.specs.declared.Measures.{Measures}

-- No of the refusal of the bytes, or Yes of the job that they are
abbrev pub OfBytes : List ℕ → (Refusal → Type 0) → (Job → Type 0) → Type 0
OfBytes s No Yes = ((why : Refusal) × Reads s (Err why) × No why) ⊎ ((j : Job) × Reads s (Ok j) × Yes j)

-- the verdict, and the room count in it
abbrev pub SaysOf : List ℕ → Verdict → Type 0
SaysOf s v = OfBytes s (λ (why : Refusal). v ≡ Limit (refusal_number why)) (λ (j : Job). Says j v)

abbrev pub CountsOf : List ℕ → Result ℕ Verdict → Type 0
CountsOf s = Counts (SaysOf s)

-- what a caller must know to lend tables: of bytes that are refused only the number; else n, m and the points, and the number and the extent of the verdict
abbrev pub no_measures : ℕ → Measures
no_measures number = record { number = number; dimensions = 0; streams = 0; points = 0; extent = no_extent }

abbrev pub MeasuresIn : Job → Measures → Type 0
MeasuresIn j r = (v : Verdict) × Says j v × (r ≡ record { number = number_of v; dimensions = j.n; streams = j.m; points = points j; extent = (in_numbers v).extent })

abbrev pub MeasuresOf : List ℕ → Measures → Type 0
MeasuresOf s r = OfBytes s (λ (why : Refusal). r ≡ no_measures (refusal_number why)) (λ (j : Job). MeasuresIn j r)

-- a run and a single tick: a refusal leaves values and places as they were
abbrev pub DoesOf : Work → List ℕ → List ℕ → List ℕ → List ℕ → List ℕ → List ℕ → Result ℕ Undone → Type 0
DoesOf work s input values places values' places' r =
    OfBytes s (λ (why : Refusal). (r ≡ Err (Refused (Limit (refusal_number why)))) × (values' ≡ values) × (places' ≡ places)) (λ (j : Job). Does work j input values places values' places' r)

abbrev pub RunsOf : List ℕ → List ℕ → List ℕ → List ℕ → List ℕ → List ℕ → Result ℕ Undone → Type 0
RunsOf = DoesOf Run

abbrev pub SingleTickOf : ℕ → List ℕ → List ℕ → List ℕ → List ℕ → List ℕ → List ℕ → Result ℕ Undone → Type 0
SingleTickOf t = DoesOf (Tick t)

-- the loop
abbrev pub LoopsOf : List ℕ → List ℕ → List ℕ → List ℕ → Result ℕ Unlooped → Type 0
LoopsOf s input before after r = OfBytes s (λ (why : Refusal). (r ≡ Err (Loop.Limit (refusal_number why))) × (after ≡ before)) (λ (j : Job). Loops j input before after r)

-- the row of stream i: none where the bytes are refused
abbrev pub RowOf : List ℕ → List ℕ → ℕ → List ℕ → Type 0
RowOf s table i row = OfBytes s (λ (why : Refusal). row ≡ []) (λ (j : Job). Row j table i row)

-- the point worked in tick t at cell x
abbrev pub LooksOf : List ℕ → ℕ → ℕ → Result (Option Vector) Verdict → Type 0
LooksOf s t x r = OfBytes s (λ (why : Refusal). r ≡ Err (Limit (refusal_number why))) (λ (j : Job). Looks j t x r)

-- the printed line: a point of a job has as many coordinates as the job dimensions, and the line of a refusal by 1 to 8 has no point
abbrev pub Prints : List ℕ → List ℕ → Type 0
Prints s l = OfBytes s (λ (why : Refusal). l ≡ line_of 0 (Limit (refusal_number why))) (λ (j : Job). (v : Verdict) × Says j v × (l ≡ line_of j.n v))

-- it is written to the front of the buffer b
abbrev pub WritesOf : List ℕ → List ℕ → ℕ → List ℕ → Type 0
WritesOf s b r t = (l : List ℕ) × Prints s l × Writes b l r t
