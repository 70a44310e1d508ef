-- The row of the job that was read, or none.
use mathlib.Core.Path.{refl}
use mathlib.Core.Logic.{inl, inr}
use Rattle.calls.proofs.row_of_bytes.Goals as goal

pub row_within-requires : goal.row_within-requires
row_within-requires c = c.in-Ok.ensures.0

pub returns-in-Ok : goal.returns-in-Ok
returns-in-Ok c = inr (_, c.in-Ok.ensures, c.row_within.ensures)

pub returns-in-Err : goal.returns-in-Err
returns-in-Err c = inl (_, c.in-Err.ensures, refl)
