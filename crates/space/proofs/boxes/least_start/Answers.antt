-- The greater of l and l - y, entry by entry, is the start of the laws.
use native.Mathlib.Omega.{arith}
use Rattle.std.proofs.lemmas.Int.{ints, clamps}
use Rattle.space.proofs.PairLaws.{start_told, start_told_least}
use Rattle.space.proofs.boxes.least_start.Goals as goal

pub returns-clause-here : goal.returns-clause-here
returns-clause-here c =
    start_told c.args.b c.args.y c.minus-s.result c.minus-s.ensures
    (omega (arith, ints, clamps)) (omega (arith, ints, clamps)) (omega (arith, ints, clamps)) (omega (arith, ints, clamps))
    c.requires.2

pub returns-clause-least : goal.returns-clause-least
returns-clause-least c =
    start_told_least c.args.b c.args.y c.minus-s.result c.minus-s.ensures
    (omega (arith, ints, clamps)) (omega (arith, ints, clamps)) (omega (arith, ints, clamps)) (omega (arith, ints, clamps))
