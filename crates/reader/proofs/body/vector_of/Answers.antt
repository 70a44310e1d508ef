-- Entries one after the other are a vector.
use Rattle.reader.proofs.Piecing.{vector_in}
use Rattle.reader.proofs.body.vector_of.Goals as goal

pub returns : goal.returns
returns c = vector_in c.args.l.now _ c.requires c.entries_at.ensures
