-- The small jobs that document 01 marks *: each line of the table holds.
use mathlib.Core.Path.{◌≡◌, refl, ap, subst}
use mathlib.Core.Logic.{inr}
use mathlib.Core.List.{List, [], ◌∷◌, map, tail}
use Prim.Native.Nat.{ℕ, zero, suc, ◌<◌}
use native.Mathlib.Omega.{arith}
use Rattle.space.specs.Vectors.{minus_of}
use Rattle.space.specs.Boxes.{count_of, place_of, point_of, back_of}
use Rattle.job.specs.declared.record.Job.{Job}
use Rattle.job.specs.Record.{zero_vector}
use Rattle.job.specs.Limits.{Acceptable}
use Rattle.layout.specs.Layout.{file_of}
use Rattle.verdict.specs.Verdicts.{Says}
use Rattle.verdict.specs.declared.judge.Verdict.{Verdict}
use Rattle.verdict.specs.declared.judge.Verdict.TheVariants.{Accepted}
use Rattle.verdict.proofs.Accepted.{past_limits}
use Rattle.decisions.proofs.Answer.{answer}
use Rattle.print.specs.Decimal.{digits, decimal}
use Rattle.print.specs.Words.{word_bytes}
use Rattle.line.specs.Fields.{fields_bytes, coordinates, pair_fields, line_fields}
use Rattle.line.specs.Lines.{line_of}
use Rattle.tables.specs.Tables.{entry_for}
use Rattle.cell.specs.Cells.{ruled, work}
use Rattle.array.specs.Loops.{incoming}
use Rattle.demand.proofs.Demand.{demand_3}
use Rattle.demand.specs.SmallJobs.{vector, local, one, squares, Line, table, Leaves, Holds, All}
use Rattle.demand.specs.SmallJobs.Line.{◌gives◌}

-- ---- the verdicts of all lines
-- the job that the 30 bytes are
abbrev thirty : Job
thirty = one 2 zero_vector (vector 1 1 0 0) (local (vector 0 1 0 0)) (vector 1 2 0 0) (vector 1 2 0 0)

-- the job and the verdict of a line
abbrev job_of : Line → Job
job_of (j gives v) = j
job_of (Line.prints bytes v l) = thirty
job_of (Line.runs j z first values) = j

abbrev verdict_of : Line → Verdict
verdict_of (j gives v) = v
verdict_of (Line.prints bytes v l) = v
verdict_of (Line.runs j z first values) = Accepted z

-- what the definitions come to, worked out for all lines together
replies : map (λ (l : Line). (answer (job_of l)).0) table ≡ map verdict_of table
unfolding answer
replies = refl

-- ---- the values of the last two
-- each value is made by rule 1 of the one before, and the first of what is fed at the first point
squares_leave : (first x y z : ℕ) → x ≡ ruled 1 first first first → y ≡ ruled 1 x x x → z ≡ ruled 1 y y y → Leaves squares first (x ∷ y ∷ z ∷ [])
unfolding count_of back_of point_of place_of minus_of incoming
squares_leave first x y z ex ey ez rest = record { size = refl; each = at }
  where
    at : (s k : ℕ) → s < 1 → k < 3 → entry_for squares (x ∷ y ∷ z ∷ []) s k ≡ work squares s (λ (u : ℕ). incoming squares (first ∷ rest) (x ∷ y ∷ z ∷ []) u k)
    at zero zero hs hk = ex
    at zero (suc zero) hs hk = ey
    at zero (suc (suc zero)) hs hk = ez
    at zero (suc (suc (suc k))) hs hk = absurd (omega arith)
    at (suc s) k hs hk = absurd (omega arith)

-- ---- the 30 bytes
-- they are the file of a job within the limits, and its line is the one that is printed
record Read (bytes : List ℕ) (v : Verdict) (l : List ℕ) : Type 0 where
  within : Acceptable thirty
  file : file_of thirty ≡ bytes
  line : l ≡ line_of 2 v

-- ---- what is to be shown of a line besides its verdict, and then of those that follow
abbrev With : Line → Type 0 → Type 0
With (j gives v) More = More
With (Line.prints bytes v l) More = Read bytes v l × More
With (Line.runs j z first values) More = Leaves j first values × More

abbrev Left : List Line → Type 0
Left [] = Unit {0}
Left (l ∷ ls) = With l (Left ls)

-- for the table: the 30 bytes and the two runs
left : Left table
unfolding file_of answer digits decimal word_bytes fields_bytes coordinates pair_fields line_fields line_of
left = (
  record { within = (past_limits (answer thirty).1 (inr (omega arith))).0; file = refl; line = refl },
  (squares_leave 1 2 6 42 refl refl refl, (squares_leave 4294967295 0 0 0 refl refl refl, tt)),
)

-- ---- together
-- a line with its verdict shown, and what is to be shown besides, holds: by demand 3 the array leaves the loop's values
holds : (l : Line) (More : Type 0) → Says (job_of l) (verdict_of l) → With l More → Holds l × More
holds (j gives v) More says left = (says, left)
holds (Line.prints bytes v l) More says left = let r = left.0 in ((inr (thirty, (r.within, r.file), says), inr (thirty, (r.within, r.file), (v, says, r.line))), left.1)
holds (Line.runs j z first values) More says left = (
  (says, left.0, λ rest places before places' after size ran. demand_3 j z says (first ∷ rest) places before places' after values size ran (left.0 rest)),
  left.1,
)

-- where the answers are the replies, each line holds
each : (ls : List Line) → map (λ (l : Line). (answer (job_of l)).0) ls ≡ map verdict_of ls → Left ls → All Holds ls
each [] e left = tt
each (l ∷ ls) e left =
    let h : (answer (job_of l)).0 ≡ verdict_of l = cc in
    let f = holds l (Left ls) (subst (Says (job_of l)) h (answer (job_of l)).1) left in
    (f.0, each ls (ap tail e) f.1)

-- the claim: each line of the table holds
pub small_jobs : All Holds table
small_jobs = each table replies left
