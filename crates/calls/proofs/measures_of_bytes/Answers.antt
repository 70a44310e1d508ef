-- The measures of the job that was read, or the reader's refusal.
use mathlib.Core.Path.{ap, ◌∙◌}
use mathlib.Core.Logic.{inl, inr}
use Rattle.calls.specs.Bytes.{no_measures}
use Rattle.calls.proofs.measures_of_bytes.Goals as goal

pub measured-requires : goal.measured-requires
measured-requires c = c.in-Ok.ensures.0

pub returns-in-Ok : goal.returns-in-Ok
returns-in-Ok c = inr (_, c.in-Ok.ensures, c.measured.ensures)

pub returns-in-Err : goal.returns-in-Err
returns-in-Err c = inl (_, c.in-Err.ensures, c.refused.ensures ∙ ap no_measures c.from.ensures)
