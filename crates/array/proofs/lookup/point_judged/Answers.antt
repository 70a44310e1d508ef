-- An accepted job has a frame, and the place that the scan finds is one of its points.
use mathlib.Core.Path.{◌≡◌, sym}
use Rattle.std.specs.Prelude.{Some}
use Rattle.job.proofs.Accepting.{walkable}
use Rattle.verdict.proofs.Accepted.{accepted_limits}
use Rattle.frame.proofs.FrameLaws.{accepted_runs}
use Rattle.array.specs.Ticks.{works, point_at}
use Rattle.array.proofs.PointLaws.{last_below}
use Rattle.array.proofs.lookup.point_judged.Goals as goal

pub frame_of-requires : goal.frame_of-requires
frame_of-requires c = accepted_runs (rw c.in-Accepted.is at c.requires)

pub point-requires : goal.point-requires
point-requires c =
    let a = c.args in
    let w = walkable (accepted_limits (rw c.in-Accepted.is at c.requires)) in
    let found : Some c.in-Some.k ≡ point_at a.j a.t a.x = rw c.frame_of.ensures.is at c.in-Some.ensures in
    (w, last_below (works a.j a.t a.x) _ _ (sym found))
