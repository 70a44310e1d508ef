-- Each stream's band is a part of the places, with room at the spot's cell; once the value is put there, one stream more is put.
use Rattle.std.proofs.Common.{arith}
use Rattle.array.proofs.LendingLaws.{band_is, some_delay, lies_in, slot_in, roomy_as}
use Rattle.array.proofs.WorkLaws.{spot_below, read_there, put_step, put_end}
use Rattle.array.proofs.work.put_values.Goals as goal

pub offset_bounds-places-from : goal.offset_bounds-places-from
offset_bounds-places-from c = omega (arith, lies_in c.loop-s.places c.requires.0.framed c.loop-s-test.true c.band_at-b.ensures c.requires.1 c.loop-s.invariant.size)

pub nonzero_rem-t : goal.nonzero_rem-t
nonzero_rem-t c =
    let F = c.requires.0.framed in
    some_delay F c.loop-s-test.true (band_is F c.loop-s-test.true c.band_at-b.ensures)

pub put_value-requires : goal.put_value-requires
put_value-requires c =
    let q = c.requires in
    let F = q.0.framed in
    let h = c.loop-s-test.true in
    slot_in F h (band_is F h c.band_at-b.ensures) (roomy_as q.1 c.loop-s.invariant.size) c.args.t c.args.spot.cell (spot_below F q.2)

pub loop-s-preserved : goal.loop-s-preserved
loop-s-preserved c =
    let q = c.requires in
    let F = q.0.framed in
    let h = c.loop-s-test.true in
    let value = read_there c.loop-s.s c.args.spot.place q.0 c.place_in_table-i.ensures.is in
    put_step F h (band_is F h c.band_at-b.ensures) _ (spot_below F q.2) q.1 c.loop-s.invariant c.put_value.ensures value

pub returns : goal.returns
returns c = put_end (omega (arith, c.loop-s-test.false, c.loop-s.auto.s-end)) c.loop-s.invariant
