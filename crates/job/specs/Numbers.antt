-- Replies in numbers: 'No.' and 'Returns besides'. (REFERENCE 5.1)
use Rattle.std.specs.Prelude.{ℕ, Result, Ok, Err}
use Rattle.job.specs.declared.numbers.Counted.{Counted}

-- 0 with what is answered, or the refusal as f has it
abbrev pub counted_in : {E : Type 0} → (E → Counted) → Result ℕ E → Counted
counted_in f (Ok n) = record { number = 0; count = n }
counted_in f (Err why) = f why
