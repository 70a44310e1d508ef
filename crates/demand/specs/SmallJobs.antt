-- 'Small jobs with their replies': those that are marked *, one table and what is claimed of each line. Most lines are a verdict, one is of bytes, and the last two end in the values of a run. (REFERENCE 2.3, 3, 4)
use Rattle.std.specs.Prelude.{◌≡◌, List, [], ◌∷◌, ℕ, ◌*◌, length, ℤ, pos, negsuc}
use Rattle.space.specs.declared.vector.Vector.{Vector}
use Rattle.job.specs.declared.record.Stream.{Stream}
use Rattle.job.specs.declared.record.Job.{Job}
use Rattle.job.specs.Record.{zero_vector, no_stream, points}
use Rattle.verdict.specs.Verdicts.{Says}
use Rattle.verdict.specs.declared.judge.Extent.{Extent}
use Rattle.verdict.specs.declared.judge.Verdict.{Verdict}
use Rattle.verdict.specs.declared.judge.Verdict.TheVariants.{Accepted, Precedence, Hop, Cell, Link}
use Rattle.array.specs.Loops.{Looped}
use Rattle.verdict.specs.Extents.{ticks}
use Rattle.array.specs.Runs.{Ran}
use Rattle.calls.specs.Bytes.{SaysOf, Prints}

-- a vector of numbers that are not negative
abbrev pub vector : ℕ → ℕ → ℕ → ℕ → Vector
vector a b c d = record { x0 = pos a; x1 = pos b; x2 = pos c; x3 = pos d }

-- streams of rule 0 along d
abbrev pub through : Vector → Stream
through d = record { d = d; kind = 0; rule = 0; a = 0; b = 0 }

abbrev pub local : Vector → Stream
local d = record { d = d; kind = 1; rule = 0; a = 0; b = 0 }

-- a stream of rule 1 along d with itself as both sources
abbrev pub squaring : Vector → Stream
squaring d = record { d = d; kind = 0; rule = 1; a = 0; b = 0 }

-- a job of n dimensions with the box from low to high, one stream, H and one row of S
abbrev pub one : ℕ → Vector → Vector → Stream → Vector → Vector → Job
one n low high s h row =
    record { n = n; k = 1; m = 1; bounds = record { low = low; high = high }; s0 = s; s1 = no_stream; s2 = no_stream; s3 = no_stream; time = h; row0 = row; row1 = zero_vector }

-- one with k rows of S and three streams, the box from 0
abbrev pub three : ℕ → ℕ → Vector → Stream → Stream → Stream → Vector → Vector → Vector → Job
three n k high s0 s1 s2 h row0 row1 =
    record { n = n; k = k; m = 3; bounds = record { low = zero_vector; high = high }; s0 = s0; s1 = s1; s2 = s2; s3 = no_stream; time = h; row0 = row0; row1 = row1 }

-- the verdicts, with their values
abbrev pub size : ℕ → ℕ → ℕ → Extent
size c t r = record { cells = c; ticks = t; room = r }

abbrev pub accepted : ℕ → ℕ → ℕ → Verdict
accepted c t r = Accepted (size c t r)

abbrev pub cell : Vector → Vector → Verdict
cell p q = Cell (record { p = p; q = q })

abbrev pub link : ℕ → Vector → Vector → ℤ → Verdict
link s p q f = Link (record { stream = s; pair = record { p = p; q = q }; hops = f })

-- a line of the table: a job and its verdict; the bytes of a file, their verdict and the line that they print; a job that is accepted with an extent, and the values that are left where the input table begins with `first`
infix 70 ◌gives◌
pub data Line : Type 0 where
  ◌gives◌ : Job → Verdict → Line
  prints : (bytes : List ℕ) (verdict : Verdict) (line : List ℕ) → Line
  runs : (j : Job) (z : Extent) (first : ℕ) (values : List ℕ) → Line

-- 'Box 0..2, d (1), H and S (1), rule 1, sources 0 and 0'
abbrev pub squares : Job
squares = one 1 zero_vector (vector 2 0 0 0) (squaring (vector 1 0 0 0)) (vector 1 0 0 0) (vector 1 0 0 0)

-- the lines, each under the document's words
abbrev pub table : List Line
table =
    -- 'Box 0..2 cubed, d (0,1,0), (1,0,0), (0,0,1), H (1,1,1), S (1,0,0) and (0,1,0): cells 9 ticks 7 room 27'
    three 3 2 (vector 2 2 2 0) (through (vector 0 1 0 0)) (through (vector 1 0 0 0)) (through (vector 0 0 1 0)) (vector 1 1 1 0) (vector 1 0 0 0) (vector 0 1 0 0) gives accepted 9 7 27
    -- 'Box 0..3 by 0..2, d (1,0), (0,1), (1,1), H (1,1), S (0,1): cells 3 ticks 6 room 12'
    ∷ three 2 1 (vector 3 2 0 0) (through (vector 1 0 0 0)) (through (vector 0 1 0 0)) (through (vector 1 1 0 0)) (vector 1 1 0 0) (vector 0 1 0 0) zero_vector gives accepted 3 6 12
    -- 'That box, d (0,1), S (0,2): H (1,1) gives 10, stream 0'
    ∷ one 2 zero_vector (vector 3 2 0 0) (through (vector 0 1 0 0)) (vector 1 1 0 0) (vector 0 2 0 0) gives Hop 0
    -- 'H (1,2) gives cells 5 ticks 8 room 5'
    ∷ one 2 zero_vector (vector 3 2 0 0) (through (vector 0 1 0 0)) (vector 1 2 0 0) (vector 0 2 0 0) gives accepted 5 8 5
    -- 'H (1,0) gives 9'
    ∷ one 2 zero_vector (vector 3 2 0 0) (through (vector 0 1 0 0)) (vector 1 0 0 0) (vector 0 2 0 0) gives Precedence 0
    -- 'Box 0..1 squared, d (1,0), H and S (1,1): 11, pair 0 1 / 1 0'
    ∷ one 2 zero_vector (vector 1 1 0 0) (through (vector 1 0 0 0)) (vector 1 1 0 0) (vector 1 1 0 0) gives cell (vector 0 1 0 0) (vector 1 0 0 0)
    -- 'Box 0..1 cubed, d (1,0,0), H (1,2,1), S (1,2,0): 12, pair 0 0 0 / 0 1 0, hops 2'
    ∷ one 3 zero_vector (vector 1 1 1 0) (through (vector 1 0 0 0)) (vector 1 2 1 0) (vector 1 2 0 0) gives link 0 zero_vector (vector 0 1 0 0) (pos 2)
    -- 'Local: cells 4 ticks 5 room 4'
    ∷ one 3 zero_vector (vector 1 1 1 0) (local (vector 1 0 0 0)) (vector 1 2 1 0) (vector 1 2 0 0) gives accepted 4 5 4
    -- 'First side 0..2: 11, pair 0 1 0 / 2 0 0'
    ∷ one 3 zero_vector (vector 2 1 1 0) (through (vector 1 0 0 0)) (vector 1 2 1 0) (vector 1 2 0 0) gives cell (vector 0 1 0 0) (vector 2 0 0 0)
    -- 'The 30 bytes above', read, judged and printed: `refused 12 stream 0 pair 0 1 / 1 0 hops -1`
    ∷ Line.prints
    (1 ∷ 0 ∷ 2 ∷ 1 ∷ 1 ∷ 0 ∷ 16 ∷ 0 ∷ 20 ∷ 0 ∷ 26 ∷ 0 ∷ 30 ∷ 0 ∷ 0 ∷ 0 ∷ 0 ∷ 1 ∷ 0 ∷ 1 ∷ 0 ∷ 1 ∷ 1 ∷ 0 ∷ 0 ∷ 0 ∷ 1 ∷ 2 ∷ 1 ∷ 2 ∷ [])
    (link 0 (vector 0 1 0 0) (vector 1 0 0 0) (negsuc 0))
    (114 ∷ 101 ∷ 102 ∷ 117 ∷ 115 ∷ 101 ∷ 100 ∷ 32 ∷ 49 ∷ 50 ∷ 32 ∷ 115 ∷ 116 ∷ 114 ∷ 101 ∷ 97 ∷ 109 ∷ 32 ∷ 48 ∷ 32 ∷ 112 ∷ 97 ∷ 105 ∷ 114 ∷ 32 ∷ 48 ∷ 32 ∷ 49 ∷ 32 ∷ 47 ∷ 32 ∷ 49 ∷ 32 ∷ 48 ∷ 32 ∷ 104 ∷ 111 ∷ 112 ∷ 115 ∷ 32 ∷ 45 ∷ 49 ∷ 10 ∷ [])
    -- 'Box 5..5, d (1), H (1), S (0): cells 1 ticks 1 room 1'
    ∷ one 1 (vector 5 0 0 0) (vector 5 0 0 0) (through (vector 1 0 0 0)) (vector 1 0 0 0) zero_vector gives accepted 1 1 1
    -- 'Box 0..2, d (1), H and S (1), rule 1, sources 0 and 0: input 1 gives 2, 6, 42' (the size is worked out here, not given there)
    ∷ Line.runs squares (size 3 3 3) 1 (2 ∷ 6 ∷ 42 ∷ [])
    -- 'input 4294967295 gives 0, 0, 0'
    ∷ Line.runs squares (size 3 3 3) 4294967295 (0 ∷ 0 ∷ 0 ∷ [])
    ∷ []

-- ---- the claim
-- whatever else the input table holds, the loop leaves the values
abbrev pub Leaves : Job → ℕ → List ℕ → Type 0
Leaves j first values = (rest : List ℕ) → Looped j (first ∷ rest) values

-- and so does every run of the array, of all its ticks, from any places and any value table of the right size
abbrev pub RunLeaves : Job → ℕ → List ℕ → Type 0
RunLeaves j first values =
    (rest places before places' after : List ℕ) → length before ≡ j.m * points j → Ran j (first ∷ rest) places before (ticks j) places' after → after ≡ values

-- a line holds: its verdict is the verdict on its job, or on its bytes, which print its line; or its job is accepted with its extent, and loop and array leave its values
abbrev pub Holds : Line → Type 0
Holds (j gives v) = Says j v
Holds (Line.prints bytes v l) = SaysOf bytes v × Prints bytes l
Holds (Line.runs j z first values) = Says j (Accepted z) × Leaves j first values × RunLeaves j first values

-- a claim of each line
abbrev pub All : (Line → Type 0) → List Line → Type 0
All P [] = Unit {0}
All P (l ∷ ls) = P l × All P ls
