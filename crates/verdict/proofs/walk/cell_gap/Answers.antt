-- The test answers with the difference where the points share cell and tick.
use Rattle.std.proofs.Common.{rules}
use Rattle.verdict.specs.Searches.{Still}
use Rattle.verdict.proofs.Gaps.{gap_as_answered}
use Rattle.verdict.proofs.walk.cell_gap.Goals as goal

pub returns : goal.returns
returns c = gap_as_answered c.args.j.bounds (Still c.args.j) c.first_difference.result c.first_difference.ensures (λ v r k. search rules)
