-- The verdict where precedence, hops and cells are kept: the link rule, or accepted.
use mathlib.Core.List.{List}
use lib.IntN.{ℤ}
use Rattle.verdict.specs.declared.judge.Collision.{Collision}
use Rattle.std.proofs.Common.{Option, Some, None}
use Rattle.job.specs.declared.record.Job.{Job}
use Rattle.job.specs.Limits.{Acceptable}
use Rattle.verdict.specs.Rules.{Ahead, Even, SameCell, All}
use Rattle.verdict.specs.Verdicts.{Says}
use Rattle.verdict.specs.Searches.{FindsCollision}
use Rattle.verdict.specs.declared.judge.Verdict.{Verdict}
use Rattle.verdict.specs.declared.judge.Verdict.TheVariants.{Accepted, Link}
use Rattle.verdict.proofs.Saying.{says_link, says_accepted}
use Rattle.decisions.proofs.Sizes.{size}

-- a verdict on a record, and that it is the one
abbrev pub Answer : Job → Type 0
Answer j = (v : Verdict) × Says j v

module _ (j : Job) (a : Acceptable j) where
  -- the link rule, or accepted
  unfoldable pub past_cell : All Ahead j → All Even j → ((p q : List ℤ) → SameCell j p q → ⊥) → (c : Option Collision) → FindsCollision j c → Answer j
  unfolding size
  past_cell ahead even apart (Some c) w = (Link c, says_link a ahead even apart w)
  past_cell ahead even apart None w = let z = size j in (Accepted z.0, says_accepted a ahead even apart w z.1)
