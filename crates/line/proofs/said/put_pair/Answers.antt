-- One point after the other.
use Rattle.line.specs.Fields.{pair_fields}
use Rattle.line.proofs.Rows.{room_first, room_rest, put_rest}
use Rattle.line.proofs.said.put_pair.Goals as goal

pub put_point-i-requires : goal.put_point-i-requires
unfolding pair_fields
put_point-i-requires c = room_first _ _ c.requires

pub put_point-requires : goal.put_point-requires
unfolding pair_fields
put_point-requires c = room_rest _ _ c.requires c.put_point-i.ensures

pub returns : goal.returns
unfolding pair_fields
returns c = put_rest _ _ c.requires c.put_point-i.ensures c.put_point.ensures
