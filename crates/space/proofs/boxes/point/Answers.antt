-- The low corner and the digits of the place.
use mathlib.Core.Path.{◌∙◌}
use native.Mathlib.Omega.{arith}
use Rattle.space.proofs.VectorLaws.{sized_up}
use Rattle.space.proofs.Digits.{lengths_small, lengths_count}
use Rattle.space.proofs.boxes.point.Goals as goal

pub offset-requires : goal.offset-requires
offset-requires c =
    let n = c.lengths.result in
    let small = lengths_small n c.args.b c.lengths.ensures c.requires.0.0 c.requires.0.1 in
    (small.0, small.1, small.2, small.3, rw (lengths_count n c.args.b c.lengths.ensures) c.requires.1)

pub plus-requires : goal.plus-requires
plus-requires c = (sized_up (omega arith) c.requires.0.0, sized_up (omega arith) c.offset.ensures.sized)

pub returns : goal.returns
returns c = c.plus.ensures ∙ c.offset.ensures.leads c.args.b c.lengths.ensures
