-- The offsets are those of the definitions, each in two bytes, the low one first.
use Rattle.layout.specs.Layout.{header_of}
use Rattle.layout.proofs.header_of.Goals as goal

pub returns : goal.returns
unfolding header_of
returns c = rw (c.to_le_bytes-streams.ensures, c.to_le_bytes-matrices.ensures, c.to_le_bytes-total.ensures) cc
