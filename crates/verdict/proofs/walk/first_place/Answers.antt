-- The place of 0 is below the count of the differences, at most 8,189 on each side.
use native.Mathlib.Omega.{arith}
use Rattle.space.specs.Vectors.{entries}
use Rattle.space.specs.Boxes.{box_of}
use Rattle.space.proofs.BoxLaws.{sides_sized, place_below}
use Rattle.job.specs.Record.{zero_vector}
use Rattle.verdict.proofs.Gaps.{count_most}
use Rattle.verdict.proofs.walk.first_place.Goals as goal

pub overflow_add-result : goal.overflow_add-result
overflow_add-result c =
    let b = c.args.b in
    let p = c.requires in
    record { fits = omega (arith, count_most (box_of b) (sides_sized b p.0.0 p.0.1), place_below (box_of b) (entries zero_vector) p.1) }
