-- The verdict where precedence and hops are kept: the cell rule, or what comes after it.
use Rattle.verdict.specs.declared.judge.Pair.{Pair}
use Rattle.std.proofs.Common.{Option, Some, None}
use Rattle.job.specs.declared.record.Job.{Job}
use Rattle.job.specs.Limits.{Acceptable}
use Rattle.verdict.specs.Rules.{Ahead, Even, All}
use Rattle.verdict.specs.Searches.{FindsPair}
use Rattle.verdict.specs.declared.judge.Verdict.TheVariants.{Cell}
use Rattle.verdict.proofs.Saying.{says_cell}
use Rattle.decisions.proofs.Searching.{first_collision}
use Rattle.decisions.proofs.PastCell.{Answer, past_cell}

module _ (j : Job) (a : Acceptable j) where
  -- the cell rule
  unfoldable pub past_hop : All Ahead j → All Even j → (c : Option Pair) → FindsPair j c → Answer j
  unfolding first_collision past_cell
  past_hop ahead even (Some c) w = (Cell c, says_cell a ahead even w)
  past_hop ahead even None w = let r = first_collision j a.boxed.solid in past_cell j a ahead even w r.0 r.1
