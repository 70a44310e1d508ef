-- The column is worked from what the point takes in, then its values are put into its cell.
use Rattle.std.proofs.Common.{ap, ◌∙◌}
use mathlib.Core.Path.{ap₂}
use Rattle.frame.specs.Frames.{cell_of}
use Rattle.array.specs.Steps.{taken}
use Rattle.array.proofs.WorkLaws.{put_as, point_worked}
use Rattle.array.proofs.work.work_point.Goals as goal

pub returns : goal.returns
returns c =
    let a = c.args in
    let q = c.requires in
    let j = a.f.job in
    let spot = c.spot_at-spot.ensures in
    let cell = spot.stands.cell ∙ ap (cell_of j) spot.is in
    point_worked q.0.framed.runnable.acceptable q.1.size
    (λ u lu. c.incoming_all-got.ensures u lu ∙ ap₂ (taken j a.input.now a.t a.places.now u) cell spot.is) c.put_column.ensures (put_as cell spot.is c.put_values.ensures)
