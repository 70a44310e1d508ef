-- The stream, then the two points, then the hops, which are read from their bits.
use mathlib.Core.List.{List, ◌++◌}
use Prim.Native.Nat.{ℕ}
use Rattle.verdict.specs.declared.judge.Collision.{Collision}
use Rattle.std.proofs.Common.{rules}
use Rattle.buffer.specs.Put.{Fits, Put}
use Rattle.space.proofs.Machine.{in_range}
use Rattle.line.specs.Fields.{fields_bytes, stream_fields, pair_fields, link_fields}
use Rattle.line.proofs.Rows.{field_bytes, room_first, room_rest, put_rest, room_head, put_last, room_held, put_held}
use Rattle.line.proofs.said.put_link.Goals as goal

-- the stream and the two points
module _ {s : List ℕ} {at : ℕ} (n : ℕ) (c : Collision) (room : Fits s at (fields_bytes (link_fields n c))) where
  points_room : Fits s at (fields_bytes (stream_fields c.stream ++ pair_fields n c.pair))
  points_room = room_first (stream_fields c.stream ++ pair_fields n c.pair) _ room

  module _ {r : ℕ} {t : List ℕ} (streamed : Put s at (fields_bytes (stream_fields c.stream)) r t) where
    after_stream : Fits t r (fields_bytes (pair_fields n c.pair))
    after_stream = room_rest (stream_fields c.stream) (pair_fields n c.pair) points_room streamed

    points_put : {q : ℕ} {u : List ℕ} → Put t r (fields_bytes (pair_fields n c.pair)) q u → Put s at (fields_bytes (stream_fields c.stream ++ pair_fields n c.pair)) q u
    points_put p = put_rest (stream_fields c.stream) (pair_fields n c.pair) points_room streamed p

pub put_stream-i-requires : goal.put_stream-i-requires
put_stream-i-requires c = room_first _ _ (points_room _ c.args.collision c.requires)

pub put_pair-j-requires : goal.put_pair-j-requires
put_pair-j-requires c = after_stream _ c.args.collision c.requires c.put_stream-i.ensures

pub put_field-requires : goal.put_field-requires
put_field-requires c =
    let points = points_put _ c.args.collision c.requires c.put_stream-i.ensures c.put_pair-j.ensures in
    room_held (field_bytes _) c.args.collision.hops (in_range (search rules)) (room_head _ _ _ (room_rest _ _ c.requires points))

pub returns : goal.returns
returns c =
    let points = points_put _ c.args.collision c.requires c.put_stream-i.ensures c.put_pair-j.ensures in
    put_rest _ _ c.requires points (put_last _ _ (put_held (field_bytes _) c.args.collision.hops (in_range (search rules)) c.put_field.ensures))
