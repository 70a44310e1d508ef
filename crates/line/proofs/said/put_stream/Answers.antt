-- One field: the stream.
use Rattle.line.proofs.Rows.{room_head, put_last}
use Rattle.line.proofs.said.put_stream.Goals as goal

pub put_field-requires : goal.put_field-requires
put_field-requires c = rw c.from.ensures (room_head _ _ _ c.requires)

pub returns : goal.returns
returns c = put_last _ _ (rw (← c.from.ensures) c.put_field.ensures)
