-- One coordinate after the other.
use mathlib.Core.Path.{ap, sym}
use Rattle.std.proofs.Common.{rules}
use Rattle.buffer.proofs.Putting.{put_as, fits_as}
use Rattle.line.proofs.Rows.{field_bytes}
use Rattle.line.proofs.Coordinates.{all_left, next_room, next_left, none_left, point_as, held_once}
use Rattle.line.proofs.said.put_point.Goals as goal

pub loop-x-init : goal.loop-x-init
loop-x-init c =
    all_left _ _ (fits_as (sym (point_as c.args.p (search rules) _ _ _ (search rules))) c.requires)

pub put_field-next-requires : goal.put_field-next-requires
put_field-next-requires c =
    fits_as (ap (field_bytes _) (sym (held_once c.args.p (search rules) _ _))) (next_room _ _ c.loop-x-test.true c.loop-x.invariant)

pub loop-x-preserved : goal.loop-x-preserved
loop-x-preserved c =
    next_left _ _ c.loop-x-test.true c.loop-x.invariant (put_as (ap (field_bytes _) (sym (held_once c.args.p (search rules) _ _))) c.put_field-next.ensures)

pub returns : goal.returns
returns c =
    put_as (sym (point_as c.args.p (search rules) _ _ _ (search rules))) (none_left _ _ c.loop-x.invariant c.loop-x-test.false)
