-- The verdict on a record, worked out from the definitions: each rule decided as it is stated, in the order of the checks.
use mathlib.Core.Path.{refl}
use Prim.Native.Nat.{ℕ, zero, suc}
use native.Mathlib.Omega.{arith}
use Rattle.std.proofs.Common.{Option, Some, None}
use Rattle.job.specs.declared.record.Job.{Job}
use Rattle.job.specs.Refusals.{First}
use Rattle.job.specs.Limits.{limits, Acceptable}
use Rattle.job.proofs.Refusing.{accepted}
use Rattle.verdict.specs.Rules.{Ahead, Even}
use Rattle.verdict.specs.Searches.{FindsStream}
use Rattle.verdict.specs.declared.judge.Verdict.TheVariants.{Limit, Precedence}
use Rattle.decisions.proofs.LimitDecisions.{number}
use Rattle.verdict.proofs.Saying.{says_limit, says_precedence}
use Rattle.decisions.proofs.Searching.{ahead, even, lowest_of}
use Rattle.decisions.proofs.PastCell.{Answer}
use Rattle.decisions.proofs.PastPrecedence.{past_precedence}

module _ (j : Job) where
  module _ (a : Acceptable j) where
    -- precedence
    unfoldable past_limits : (r : Option ℕ) → FindsStream (Ahead j) j.m r → Answer j
    unfolding even past_precedence
    past_limits (Some s) w = (Precedence s, says_precedence a w)
    past_limits None w = let r = lowest_of (Even j) (even j) j.m in past_precedence j a w r.0 r.1

  -- the limits
  unfoldable from_start : (r : ℕ) → First (limits j) r → Answer j
  unfolding ahead past_limits
  from_start (suc n) w = (Limit (suc n), says_limit (w, λ e. omega arith))
  from_start zero w = let r = lowest_of (Ahead j) (ahead j) j.m in past_limits (accepted j refl w) r.0 r.1

-- the verdict on a record
unfoldable pub answer : (j : Job) → Answer j
unfolding number from_start
answer j = let r = number j in from_start j r.0 r.1
