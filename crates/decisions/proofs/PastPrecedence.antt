-- The verdict where precedence is kept: the hop rule, or what comes after it.
use Rattle.std.proofs.Common.{Option, Some, None}
use Prim.Native.Nat.{ℕ}
use Rattle.job.specs.declared.record.Job.{Job}
use Rattle.job.specs.Limits.{Acceptable}
use Rattle.verdict.specs.Rules.{Ahead, Even, All}
use Rattle.verdict.specs.Searches.{FindsStream}
use Rattle.verdict.specs.declared.judge.Verdict.TheVariants.{Hop}
use Rattle.verdict.proofs.Saying.{says_hop}
use Rattle.decisions.proofs.Searching.{crowd}
use Rattle.decisions.proofs.PastCell.{Answer}
use Rattle.decisions.proofs.PastHop.{past_hop}

module _ (j : Job) (a : Acceptable j) where
  -- the hop rule
  unfoldable pub past_precedence : All Ahead j → (r : Option ℕ) → FindsStream (Even j) j.m r → Answer j
  unfolding crowd past_hop
  past_precedence ahead (Some s) w = (Hop s, says_hop a ahead w)
  past_precedence ahead None w = let r = crowd j a.boxed.solid in past_hop j a ahead w r.0 r.1
