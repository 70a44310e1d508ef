-- No row of a job that is refused; else that of a job within the limits.
use mathlib.Core.Path.{refl}
use Rattle.job.proofs.Refusing.{accepted, refuses}
use Rattle.tables.proofs.RowLaws.{no_job}
use Rattle.tables.proofs.rows.row_of.Goals as goal

pub row_within-requires : goal.row_within-requires
row_within-requires c = accepted _ refl c.in-Ok.ensures

pub returns-in-Err : goal.returns-in-Err
returns-in-Err c = no_job c.args.j _ _ _ c.in-Err.ensures (refuses _)
