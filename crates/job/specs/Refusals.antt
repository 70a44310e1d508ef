-- 'Numbers of refusal. Checked in this order': a list of conditions, each with the number that is given where it is the first that does not hold. (REFERENCE 5.1)
use Rattle.std.specs.Prelude.{◌≡◌, ◌⊎◌, ℕ, Result, Ok, Err}
use Rattle.job.specs.declared.refusal.Refusal.{Refusal}
use Rattle.job.specs.declared.refusal.Refusal.TheVariants.{Short, Form, Counts, Offsets, Length, Bounds, Streams, Rows}

pub data Checks : Type 1 where
  done : Checks
  check : ℕ → Type 0 → Checks → Checks

-- r is the number of the first condition that does not hold, 0 where all hold
abbrev pub First : Checks → ℕ → Type 0
First done r = r ≡ 0
First (check number holds rest) r = (holds × First rest r) ⊎ ((holds → ⊥) × (r ≡ number))

-- one list of checks and then another
abbrev pub and_then : Checks → Checks → Checks
and_then done more = more
and_then (check number holds rest) more = check number holds (and_then rest more)

-- 'No.' of a refusal
abbrev pub number_of : Refusal → ℕ
number_of Short = 1
number_of Form = 2
number_of Counts = 3
number_of Offsets = 4
number_of Length = 5
number_of Bounds = 6
number_of Streams = 7
number_of Rows = 8

-- 'No.' of a reply, 0 where nothing is refused
abbrev pub number_in : {A : Type 0} → Result A Refusal → ℕ
number_in (Ok a) = 0
number_in (Err why) = number_of why
