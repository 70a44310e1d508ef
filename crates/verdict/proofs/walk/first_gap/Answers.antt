-- 0 is the point at its place, and the next is the one after it.
use mathlib.Core.Path.{sym}
use Rattle.space.specs.Vectors.{entries}
use Rattle.space.specs.Boxes.{box_of, place_of}
use Rattle.space.proofs.BoxLaws.{point_place}
use Rattle.job.specs.Record.{zero_vector}
use Rattle.verdict.proofs.walk.first_gap.Goals as goal

pub returns : goal.returns
returns c =
    let D = box_of c.args.b in
    c.next.ensures (place_of D (entries zero_vector)) (sym (point_place D (entries zero_vector) c.requires.1))
