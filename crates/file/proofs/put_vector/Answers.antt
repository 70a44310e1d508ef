-- The first n of the four bytes are those of the first n entries.
use Rattle.buffer.proofs.Putting.{put_as, fits_as}
use Rattle.file.proofs.Joined.{vector_part}
use Rattle.file.proofs.put_vector.Goals as goal

pub put_bytes-requires : goal.put_bytes-requires
put_bytes-requires c =
    rw c.from-size.ensures (fits_as (vector_part c.args.n c.args.v c.requires.0 c.vector_bytes-bytes.ensures) c.requires.2)

pub returns : goal.returns
returns c =
    put_as (vector_part c.args.n c.args.v c.requires.0 c.vector_bytes-bytes.ensures) (rw c.from-size.ensures at c.put_bytes.ensures)
