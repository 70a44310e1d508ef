-- The verdict on the job that was read, or the reader's refusal.
use mathlib.Core.Logic.{inl, inr}
use Rattle.calls.proofs.verdict_of_bytes.Goals as goal

pub judged-requires : goal.judged-requires
judged-requires c = c.in-Ok.ensures.0

pub returns-in-Ok : goal.returns-in-Ok
returns-in-Ok c = inr (_, c.in-Ok.ensures, c.judged.ensures)

pub returns-in-Err : goal.returns-in-Err
returns-in-Err c = inl (_, c.in-Err.ensures, c.from.ensures)
