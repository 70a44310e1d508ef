-- The first stream of which the test says no is the lowest that breaks the rule.
use Rattle.std.proofs.Common.{rules}
use Rattle.verdict.specs.Rules.{Ahead}
use Rattle.verdict.proofs.LowestStreams.{lowest_of_no}
use Rattle.verdict.proofs.rules.late.Goals as goal

pub returns : goal.returns
returns c = lowest_of_no (Ahead c.args.j) c.args.j.m c.lowest_breaking.result c.lowest_breaking.ensures (λ s b k. search rules)
