-- Entries at the even and at the odd places are a box.
use Rattle.reader.proofs.Piecing.{box_in}
use Rattle.reader.proofs.body.bounds_of.Goals as goal

pub returns : goal.returns
returns c n most size = box_in c.args.l.now _ n most size c.entries_at-low.ensures c.entries_at-high.ensures
