-- Writing a job file: refusals 3, 6, 7, 8 and 17, and what the lent bytes then hold. (REFERENCE 2.4, 5.1)
use Rattle.std.specs.Prelude.{◌≡◌, List, ℕ, ◌≤◌, length, Result, Ok, Err}
use Rattle.job.specs.declared.record.Job.{Job}
use Rattle.job.specs.declared.numbers.Counted.{Counted}
use Rattle.job.specs.Numbers.{counted_in}
use Rattle.job.specs.Refusals.{Checks, done, check, First, and_then}
use Rattle.job.specs.Limits.{limits}
use Rattle.layout.specs.Layout.{total_of, file_of}
use Rattle.buffer.specs.Put.{put_at}
use Rattle.writer.specs.declared.Unwritten.{Unwritten}
use Rattle.writer.specs.declared.Unwritten.TheVariants.{Refused, Short}

-- the total of the job's file
abbrev pub total_for : Job → ℕ
total_for j = total_of 1 j.n j.k j.m

-- 3, 6, 7, 8, and then 17 'writer's buffer shorter than the total', of so many lent bytes
abbrev pub write_checks : Job → ℕ → Checks
write_checks j room = and_then (limits j) (check 17 (total_for j ≤ room) done)

-- 'No.' and 'Returns besides'
abbrev pub in_numbers : Unwritten → Counted
in_numbers (Refused r) = record { number = r; count = 0 }
in_numbers (Short t) = record { number = 17; count = t }

abbrev pub counted_of : Result ℕ Unwritten → Counted
counted_of = counted_in in_numbers

abbrev pub number_of : Result ℕ Unwritten → ℕ
number_of w = (counted_of w).number

-- what a reply says beside its number, of the lent bytes before and after
abbrev pub Claims : Job → List ℕ → List ℕ → Result ℕ Unwritten → Type 0
Claims j before after (Ok t) = (t ≡ total_for j) × (after ≡ put_at before 0 (file_of j))
Claims j before after (Err (Refused r)) = First (limits j) r × (r ≡ 0 → ⊥) × (after ≡ before)
Claims j before after (Err (Short t)) = (t ≡ total_for j) × (after ≡ before)

-- what a reply says: its number is the first that is given
pub record Writes (j : Job) (before after : List ℕ) (w : Result ℕ Unwritten) : Type 0 where
  pub first : First (write_checks j (length before)) (number_of w)
  pub claim : Claims j before after w
