-- The room count: 'Verdict and room count use 1 to 12'. (REFERENCE 4.3)
use Rattle.std.specs.Prelude.{◌≡◌, ℕ, Result, Ok, Err}
use Rattle.job.specs.declared.numbers.Counted.{Counted}
use Rattle.job.specs.Numbers.{counted_in}
use Rattle.verdict.specs.Verdicts.{number_of}
use Rattle.verdict.specs.declared.judge.Verdict.{Verdict}
use Rattle.verdict.specs.declared.judge.Verdict.TheVariants.{Accepted, Limit, Precedence, Hop, Cell, Link}

-- R where the verdict is accepted, else the refusal
abbrev pub room_of : Verdict → Result ℕ Verdict
room_of (Accepted z) = Ok z.room
room_of (Limit r) = Err (Limit r)
room_of (Precedence s) = Err (Precedence s)
room_of (Hop s) = Err (Hop s)
room_of (Cell c) = Err (Cell c)
room_of (Link c) = Err (Link c)

-- r is the room count of what the verdict is said of
abbrev pub Counts : (Verdict → Type 0) → Result ℕ Verdict → Type 0
Counts Is r = (v : Verdict) × Is v × (r ≡ room_of v)

-- the number of a refusal, no count besides
abbrev pub refused : Verdict → Counted
refused v = record { number = number_of v; count = 0 }

-- its number, 0 for none, and R
abbrev pub counted_of : Result ℕ Verdict → Counted
counted_of = counted_in refused
