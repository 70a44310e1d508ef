-- At none of the places passed does the test answer, and y is the difference at the next.
use Rattle.space.specs.Vectors.{entries}
use Rattle.space.specs.Boxes.{box_of, PointAt}
use Rattle.verdict.proofs.Gaps.{Passed, Unanswered}
use Rattle.verdict.proofs.walk.first_difference.Given as goal

abbrev pub invariant-loop-place : goal.invariant-loop-place
invariant-loop-place g l =
    Passed (Unanswered (λ y r. goal.F-post g l.meets y r)) (box_of l.b) l._place × PointAt (box_of l.b) l._place (entries l.y)
