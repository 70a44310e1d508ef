-- What a run and a single tick answer: 'a run adds 13 to 15, a single tick 16 as well'. (REFERENCE 5.1, 13 to 16)
use Rattle.std.specs.Prelude.{◌≡◌, ◌⊎◌, ℕ, ◌<◌, ◌≤◌, Result, Ok, Err}
use Rattle.job.specs.declared.numbers.Counted.{Counted}
use Rattle.job.specs.Numbers.{counted_in}
use Rattle.job.specs.declared.record.Job.{Job}
use Rattle.job.specs.Refusals.{Checks, done, check, First}
use Rattle.verdict.specs.Verdicts.{Says, number_of as number_in}
use Rattle.verdict.specs.declared.judge.Verdict.{Verdict}
use Rattle.verdict.specs.declared.judge.Verdict.TheVariants.{Accepted}
use Rattle.verdict.specs.declared.judge.Extent.{Extent}
use Rattle.tables.specs.Tables.{Long}
use Rattle.checks.specs.declared.Work.{Work}
use Rattle.checks.specs.declared.Work.TheVariants.{Run, Tick}
use Rattle.checks.specs.declared.Undone.{Undone}
use Rattle.checks.specs.declared.Undone.TheVariants.{Refused, Tables, Large, Few, Late}

-- 14: 'R over 8,192'
abbrev pub room_limit : ℕ
room_limit = 8192

-- 16 'single tick number ≥ tick count', of a single tick alone
abbrev pub tick_checks : Work → ℕ → Checks
tick_checks Run ticks = done
tick_checks (Tick t) ticks = check 16 (t < ticks) done

-- 13, 14, 15 'fewer than R places lent', and then 16, of tables and places so long, for an accepted array
abbrev pub checks_of : Work → Job → ℕ → ℕ → ℕ → Extent → Checks
checks_of work j input values places z =
    check 13 (Long j input values) (check 14 (z.room ≤ room_limit) (check 15 (z.room ≤ places) (tick_checks work z.ticks)))

-- 'No.' and the count of 'Returns besides': R for 14 and 15
abbrev pub in_numbers : Undone → Counted
in_numbers (Refused v) = record { number = number_in v; count = 0 }
in_numbers Tables = record { number = 13; count = 0 }
in_numbers (Large r) = record { number = 14; count = r }
in_numbers (Few r) = record { number = 15; count = r }
in_numbers Late = record { number = 16; count = 0 }

-- the same of a reply, which is the tick count or why there is none
abbrev pub counted_of : Result ℕ Undone → Counted
counted_of = counted_in in_numbers

abbrev pub number_of : Result ℕ Undone → ℕ
number_of r = (counted_of r).number

-- a reply on an accepted array of extent z returns its tick count or its room
abbrev pub Besides : Extent → Result ℕ Undone → Type 0
Besides z (Ok n) = n ≡ z.ticks
Besides z (Err (Refused v)) = ⊥
Besides z (Err Tables) = Unit {0}
Besides z (Err (Large r)) = r ≡ z.room
Besides z (Err (Few r)) = r ≡ z.room
Besides z (Err Late) = Unit {0}

-- the first of the checks that fails for the extent z, or the tick count
pub record Lacks (checks : Extent → Checks) (z : Extent) (r : Result ℕ Undone) : Type 0 where
  pub first : First (checks z) (number_of r)
  pub besides : Besides z r

-- the verdict's refusal: nothing lent is altered
pub record Denied (j : Job) (Same : Type 0) (r : Result ℕ Undone) : Type 0 where
  pub verdict : Verdict
  pub is : r ≡ Err (Refused verdict)
  pub says : Says j verdict
  pub refusal : number_in verdict ≡ 0 → ⊥
  pub same : Same

-- an accepted array: what must hold of the tables where all checks pass is Done, and else nothing lent is altered
pub record Granted (j : Job) (checks : Extent → Checks) (Done Same : Type 0) (r : Result ℕ Undone) : Type 0 where
  pub extent : Extent
  pub accepted : Says j (Accepted extent)
  pub lacks : Lacks checks extent r
  pub finished : number_of r ≡ 0 → Done
  pub same : (number_of r ≡ 0 → ⊥) → Same

-- what a reply says
abbrev pub Replies : Job → (Extent → Checks) → Type 0 → Type 0 → Result ℕ Undone → Type 0
Replies j checks Done Same r = Denied j Same r ⊎ Granted j checks Done Same r
