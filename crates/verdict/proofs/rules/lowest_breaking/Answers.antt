-- Of every stream before s the test has said yes.
use Rattle.std.proofs.Common.{arith}
use Rattle.verdict.specs.Searches.{FindsNo}
use Rattle.verdict.proofs.rules.lowest_breaking.Goals as goal

pub returns-then-not-keeps : goal.returns-then-not-keeps
unfolding FindsNo
returns-then-not-keeps g c = (c.loop-s-test.true, c.if-not-keeps.ensures, c.loop-s.invariant)

pub returns : goal.returns
unfolding FindsNo
returns g c = λ t h. c.loop-s.invariant t (omega arith)
