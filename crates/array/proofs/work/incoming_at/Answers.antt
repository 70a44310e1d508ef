-- Where the point before is in the box, what stands in the cell is what is taken in; where it is not, the input.
use Rattle.std.proofs.Common.{ℕ, get_or, sym, ap, ◌∙◌}
use Rattle.space.proofs.BoxLaws.{stands_in}
use Rattle.array.proofs.LendingLaws.{band_is, some_delay, place_is, place_in}
use Rattle.array.proofs.WorkLaws.{spot_below, read_there, taken_some, taken_none}
use Rattle.array.proofs.work.incoming_at.Goals as goal

pub previous_at-requires : goal.previous_at-requires
previous_at-requires c =
    let q = c.requires in
    (q.0.framed.runnable.acceptable, q.3, stands_in _ c.args.spot.place q.2.low q.2.point)

pub standing_at-requires : goal.standing_at-requires
standing_at-requires c =
    let q = c.requires in
    let F = q.0.framed in
    let B = band_is F q.3 c.band_at.ensures in
    (some_delay F q.3 B, place_in F q.3 B q.1 c.args.t c.args.spot.cell (spot_below F q.2))

pub returns-in-Some : goal.returns-in-Some
returns-in-Some c =
    let a = c.args in
    let q = c.requires in
    let F = q.0.framed in
    let there = place_is F q.3 (band_is F q.3 c.band_at.ensures) a.t a.spot.cell in
    c.standing_at.ensures ∙ ap (λ (i : ℕ). get_or a.places.now i 0) there
    ∙ taken_some a.f.job a.input.now a.t a.places.now a.s a.spot.cell a.spot.place _ (sym (c.in-Some.ensures a.spot.place q.2.point))

pub returns-in-None : goal.returns-in-None
returns-in-None c =
    let a = c.args in
    let q = c.requires in
    read_there a.s a.spot.place q.0 c.place_in_table.ensures.is
    ∙ taken_none a.f.job a.input.now a.t a.places.now a.s a.spot.cell a.spot.place (sym (c.in-None.ensures a.spot.place q.2.point))
