-- Two fields: the ticks, then the room.
use Rattle.line.proofs.Rows.{room_head, room_tail, put_tail, put_last}
use Rattle.line.proofs.said.put_sizes.Goals as goal

pub put_field-i-requires : goal.put_field-i-requires
put_field-i-requires c = room_head _ _ _ c.requires

pub put_field-requires : goal.put_field-requires
put_field-requires c =
    room_head _ _ _ (room_tail _ _ _ c.requires c.put_field-i.ensures)

pub returns : goal.returns
returns c =
    put_tail _ _ _ c.requires c.put_field-i.ensures (put_last _ _ c.put_field.ensures)
