-- The first word goes by whether the job is accepted.
use mathlib.Core.Path.{ap}
use Rattle.line.specs.Fields.{Field}
use Rattle.line.proofs.Leading.{not_accepted}
use Rattle.line.proofs.write.lead_of.Goals as goal

pub returns-in_default : goal.returns-in_default
returns-in_default c = ap (λ (f : Field). f.word) (not_accepted c.args.v c.in_default.not-Accepted)
