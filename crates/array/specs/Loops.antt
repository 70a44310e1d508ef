-- 'The loop takes points in box order, the incoming value being the stream's value at i - d, or the input; it answers the point count.' (REFERENCE 4.10)
use Rattle.std.specs.Prelude.{◌≡◌, List, ℕ, ◌*◌, ◌<◌, length, Result, Ok, Err}
use Rattle.space.specs.Boxes.{given}
use Rattle.job.specs.declared.numbers.Counted.{Counted}
use Rattle.job.specs.Numbers.{counted_in}
use Rattle.job.specs.declared.record.Job.{Job}
use Rattle.job.specs.Refusals.{Checks, done, check, First, and_then}
use Rattle.job.specs.Limits.{limits}
use Rattle.job.specs.Record.{points}
use Rattle.tables.specs.Tables.{Long, entry_for, previous}
use Rattle.cell.specs.Cells.{work}
use Rattle.array.specs.declared.loops.Unlooped.{Unlooped}
use Rattle.array.specs.declared.loops.Unlooped.TheVariants.{Limit, Tables}

-- 'the stream's value at i - d, or the input'
unfoldable pub incoming : Job → List ℕ → List ℕ → ℕ → ℕ → ℕ
incoming j input values s k = given (previous j s k) (entry_for j input s k) (entry_for j values s)

-- the table that the loop leaves: at every point of every stream the rule's value of the incoming values there
pub record Looped (j : Job) (input values : List ℕ) : Type 0 where
  pub size : length values ≡ j.m * points j
  pub each : (s k : ℕ) → s < j.m → k < points j → entry_for j values s k ≡ work j s (λ (u : ℕ). incoming j input values u k)

-- 'The loop uses 1 to 8 and 13'
abbrev pub loop_checks : Job → List ℕ → List ℕ → Checks
loop_checks j input values = and_then (limits j) (check 13 (Long j (length input) (length values)) done)

-- 'No.'
abbrev pub number_of : Unlooped → ℕ
number_of (Limit r) = r
number_of Tables = 13

-- the same as a record, no count besides
abbrev pub in_numbers : Unlooped → Counted
in_numbers e = record { number = number_of e; count = 0 }

-- 'No.' and the count of 'Returns besides': the point count
abbrev pub counted_of : Result ℕ Unlooped → Counted
counted_of = counted_in in_numbers

-- what a refusal says beside its number: a limit's is the limits'
abbrev pub Claims : Job → Unlooped → Type 0
Claims j (Limit r) = First (limits j) r × (r ≡ 0 → ⊥)
Claims j Tables = Unit {0}

-- what a reply says of the job and of the value table before and after
abbrev pub Loops : Job → List ℕ → List ℕ → List ℕ → Result ℕ Unlooped → Type 0
Loops j input before after (Ok n) = First (loop_checks j input before) 0 × (n ≡ points j) × Looped j input after
Loops j input before after (Err e) = First (loop_checks j input before) (number_of e) × Claims j e × (after ≡ before)
