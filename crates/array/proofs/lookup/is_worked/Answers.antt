-- The point at place k is in the box.
use Rattle.space.proofs.BoxLaws.{stands_in}
use Rattle.array.proofs.lookup.is_worked.Goals as goal

pub tick_at-requires : goal.tick_at-requires
tick_at-requires c = (c.requires.0, stands_in _ c.args.k c.requires.1 c.point-p.ensures)

pub cell_at-requires : goal.cell_at-requires
cell_at-requires c = (c.requires.0, stands_in _ c.args.k c.requires.1 c.point-p.ensures)
