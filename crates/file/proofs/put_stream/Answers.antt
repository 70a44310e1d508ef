-- The vector, and from where it ends the four numbers.
use Rattle.layout.specs.Layout.{vector_bytes}
use Rattle.buffer.proofs.Putting.{and_then, first}
use Rattle.file.proofs.put_stream.Goals as goal

pub returns : goal.returns
returns c =
    and_then c.put_vector-next.ensures (first (vector_bytes 1 c.args.n c.args.s.d) _ c.requires.2) c.put_bytes.ensures
