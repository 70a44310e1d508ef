-- At none of the places passed does the test answer, and y is the difference at the next.
use Rattle.std.proofs.Common.{◌<◌, arith}
use Rattle.space.specs.Boxes.{box_of, count_of}
use Rattle.space.proofs.BoxLaws.{stands_in}
use Rattle.job.proofs.Accepting.{solid}
use Rattle.verdict.proofs.Gaps.{spread, gap_sized, passed_first, passed_more, unanswered, answer_found, answer_nowhere}
use Rattle.verdict.proofs.walk.first_difference.Goals as goal

pub first_gap-y-requires : goal.first_gap-y-requires
first_gap-y-requires g c =
    let d = c.differences-b.ensures in
    (d.sized, (spread c.args.j.bounds c.differences-b.result (solid c.args.j c.requires.accepted) d.apart d.all).zeros)

pub first_place-place-requires : goal.first_place-place-requires
first_place-place-requires g c =
    let d = c.differences-b.ensures in
    (d.sized, (spread c.args.j.bounds c.differences-b.result (solid c.args.j c.requires.accepted) d.apart d.all).zeros)

pub loop-place-init : goal.loop-place-init
loop-place-init g c =
    let e = c.first_place-place.ensures in
    (passed_first _ _ _ e, rw e c.first_gap-y.ensures)

pub meets-requires : goal.meets-requires
meets-requires g c =
    let b = c.differences-b.result in
    let d = c.differences-b.ensures.sized in
    let below : c.loop-place._place < count_of (box_of b) = omega (arith, c.count-place-end.ensures) in
    c.requires.callable c.loop-place.y (gap_sized b c.loop-place._place _ d.0 d.1 below (c.loop-place.invariant.1 below))

pub returns-in-Some : goal.returns-in-Some
returns-in-Some g c =
    let b = c.differences-b.result in
    let d = c.differences-b.ensures in
    let below : c.loop-place._place < count_of (box_of b) = omega (arith, c.count-place-end.ensures) in
    answer_found (λ y r. goal.F-post g c.args.meets y r) _ _ (spread c.args.j.bounds b (solid c.args.j c.requires.accepted) d.apart d.all)
    c.loop-place._place below c.loop-place.invariant.0 c.loop-place.y (c.loop-place.invariant.1 below) _ c.in-Some.ensures

pub next-y-requires : goal.next-y-requires
next-y-requires g c =
    let b = c.differences-b.result in
    let d = c.differences-b.ensures.sized in
    let below : c.loop-place._place < count_of (box_of b) = omega (arith, c.count-place-end.ensures) in
    (d, stands_in (box_of b) c.loop-place._place below (c.loop-place.invariant.1 below))

pub loop-place-preserved : goal.loop-place-preserved
loop-place-preserved g c =
    let b = c.differences-b.result in
    let below : c.loop-place._place < count_of (box_of b) = omega (arith, c.count-place-end.ensures) in
    let stands = c.loop-place.invariant.1 below in
    (passed_more _ _ _ c.loop-place.invariant.0 (unanswered (λ y r. goal.F-post g c.args.meets y r) _ c.loop-place.y stands c.in_default.ensures), c.next-y.ensures c.loop-place._place stands)

pub returns : goal.returns
returns g c =
    let b = c.differences-b.result in
    let d = c.differences-b.ensures in
    answer_nowhere (λ y r. goal.F-post g c.args.meets y r) _ _ (spread c.args.j.bounds b (solid c.args.j c.requires.accepted) d.apart d.all)
    c.loop-place._place (omega (arith, c.count-place-end.ensures)) c.loop-place.invariant.0
