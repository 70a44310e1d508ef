-- Of every stream before s the test has said yes.
use Rattle.std.proofs.Common.{ℕ, ◌<◌, true}
use Rattle.verdict.proofs.rules.lowest_breaking.Given as goal

abbrev pub invariant-loop-s : goal.invariant-loop-s
invariant-loop-s g l = (t : ℕ) → t < l.s → goal.F-post g l.keeps t true
