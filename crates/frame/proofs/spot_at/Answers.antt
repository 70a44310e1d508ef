-- The point at the place, and its cell.
use mathlib.Core.Path.{refl}
use Rattle.job.proofs.Accepting.{walkable}
use Rattle.space.proofs.BoxLaws.{stands_in}
use Rattle.frame.proofs.spot_at.Goals as goal

pub point-p-requires : goal.point-p-requires
point-p-requires c = let w = walkable c.requires.0.runnable.acceptable in (w, c.requires.1)

pub cell_at-requires : goal.cell_at-requires
cell_at-requires c = (c.requires.0, stands_in _ c.args.k c.requires.1 c.point-p.ensures)

pub returns : goal.returns
returns c =
    record {
      is = refl;
      stands = record { low = c.requires.1; point = c.point-p.ensures; cell = c.cell_at.ensures c.args.k c.point-p.ensures };
    }
