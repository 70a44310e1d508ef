-- Each stream's band is a part of the places; once shifted, it carries the arrivals one stream further.
use Rattle.std.proofs.Common.{arith, ap, sym, ◌∙◌}
use Rattle.space.specs.Boxes.{count_of}
use Rattle.array.proofs.LendingLaws.{band_is, some_delay, lent, shifted, lies_in, band_of, roomy_as}
use Rattle.array.proofs.ArrivalLaws.{arrive_step, arrive_end}
use Rattle.array.proofs.arrive.arrive.Goals as goal

pub offset_bounds-places-from : goal.offset_bounds-places-from
offset_bounds-places-from c = omega (arith, lies_in c.loop-s.places c.requires.0 c.loop-s-test.true c.band_at-b.ensures c.requires.1 c.loop-s.invariant.size)

pub nonzero_rem-t : goal.nonzero_rem-t
nonzero_rem-t c = some_delay c.requires.0 c.loop-s-test.true (band_is c.requires.0 c.loop-s-test.true c.band_at-b.ensures)

pub shift-requires : goal.shift-requires
shift-requires c =
    let F = c.requires.0 in
    let h = c.loop-s-test.true in
    let B = band_is F h c.band_at-b.ensures in
    (lent F h B (band_of F h B (roomy_as c.requires.1 c.loop-s.invariant.size)) c.args.t, F.cells ∙ sym (ap count_of F.rectangle))

pub loop-s-preserved : goal.loop-s-preserved
loop-s-preserved c =
    let F = c.requires.0 in
    let h = c.loop-s-test.true in
    let B = band_is F h c.band_at-b.ensures in
    arrive_step F h B c.requires.1 c.loop-s.invariant (shifted F h B c.args.t c.shift.ensures)

pub returns : goal.returns
returns c = arrive_end (omega (arith, c.loop-s-test.false, c.loop-s.auto.s-end)) c.loop-s.invariant
