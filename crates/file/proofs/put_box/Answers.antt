-- The first 2n of the eight bytes are the first n sides.
use native.Mathlib.Omega.{arith}
use Rattle.layout.proofs.Entries.{sized_held}
use Rattle.buffer.proofs.Putting.{put_as, fits_as}
use Rattle.file.proofs.Joined.{box_part}
use Rattle.file.proofs.put_box.Goals as goal

pub vector_bytes-l-requires : goal.vector_bytes-l-requires
vector_bytes-l-requires c = sized_held (omega arith) c.requires.0.boxed.low

pub vector_bytes-u-requires : goal.vector_bytes-u-requires
vector_bytes-u-requires c = sized_held (omega arith) c.requires.0.boxed.high

pub put_bytes-requires : goal.put_bytes-requires
put_bytes-requires c =
    rw c.from-size.ensures (fits_as (box_part c.args.j c.requires.0.shaped.dimensions.1 c.vector_bytes-l.ensures c.vector_bytes-u.ensures) c.requires.1)

pub returns : goal.returns
returns c =
    put_as (box_part c.args.j c.requires.0.shaped.dimensions.1 c.vector_bytes-l.ensures c.vector_bytes-u.ensures) (rw c.from-size.ensures at c.put_bytes.ensures)
