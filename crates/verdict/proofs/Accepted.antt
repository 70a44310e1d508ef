-- What an accepted verdict gives, and that no refusal stands beside it.
use mathlib.Core.Path.{◌≡◌, refl, ap}
use mathlib.Core.Logic.{◌⊎◌, inl, inr}
use mathlib.Core.List.{List, [], ◌∷◌}
use Prim.Native.Nat.{ℕ, ◌<◌, ◌≤◌}
use native.Mathlib.Omega.{arith}
use lib.IntN.{ℤ}
use types.Run.{OneOf, miss}
use denote.Enum.Declared.{tag_of}
use Rattle.job.specs.declared.record.Job.{Job}
use Rattle.job.specs.Refusals.{First}
use Rattle.job.specs.Limits.{limits, Acceptable}
use Rattle.job.proofs.Refusing.{Passes, first_passes, past_first, within}
use Rattle.verdict.specs.Rules.{Ahead, Even, SameCell, Clear, All, rules}
use Rattle.verdict.specs.Verdicts.{Says, number_of}
use Rattle.verdict.specs.declared.judge.Extent.{Extent}
use Rattle.verdict.specs.declared.judge.Verdict.{Verdict}
use Rattle.verdict.specs.declared.judge.Verdict.TheVariants.{Accepted, Limit, Precedence, Hop, Cell, Link}
use Rattle.verdict.specs.contracts.judge.Verdict.{the_type}
use Rattle.verdict.proofs.Unique.{says_unique}

-- a verdict that is not the first variant has a number
pub not_accepted : (j : Job) (v : Verdict) → Says j v → OneOf (1 ∷ 2 ∷ 3 ∷ 4 ∷ 5 ∷ []) (tag_of the_type v) → number_of v ≡ 0 → ⊥
not_accepted j (Accepted z) s o e = miss (1 ∷ 2 ∷ 3 ∷ 4 ∷ 5 ∷ []) 0 tt o
not_accepted j (Limit r) s o e = s.claim.1 e
not_accepted j (Precedence t) s o e = absurd (omega arith)
not_accepted j (Hop t) s o e = absurd (omega arith)
not_accepted j (Cell c) s o e = absurd (omega arith)
not_accepted j (Link c) s o e = absurd (omega arith)

-- a verdict that no limit gives is one by the rules, past the limits
pub past_limits : {j : Job} {v : Verdict} → Says j v → (number_of v ≡ 0) ⊎ (8 < number_of v) → Acceptable j × First (rules j) (number_of v)
past_limits {j} {v} s h = let p = past_first (limits j) (rules j) (number_of v) (other 3 (omega arith) (omega arith) h, (other 6 (omega arith) (omega arith) h, (other 7 (omega arith) (omega arith) h, (other 8 (omega arith) (omega arith) h, tt)))) s.first in (within p.0, p.1)
  where
    other : (n : ℕ) → 0 < n → n ≤ 8 → (number_of v ≡ 0) ⊎ (8 < number_of v) → number_of v ≡ n → ⊥
    other n a b (inl h) e = omega arith
    other n a b (inr h) e = omega arith

-- ---- an accepted job keeps every rule
module _ {j : Job} {z : Extent} (s : Says j (Accepted z)) where
  kept : Passes (rules j)
  kept = first_passes (rules j) ((λ e. omega arith), ((λ e. omega arith), ((λ e. omega arith), ((λ e. omega arith), tt)))) (past_limits s (inl refl)).1

  -- the limits
  pub accepted_limits : Acceptable j
  accepted_limits = (past_limits s (inl refl)).0

  -- and precedence
  pub accepted_ahead : Acceptable j × All Ahead j
  accepted_ahead = (accepted_limits, kept.0)

  -- hop
  pub accepted_even : All Even j
  accepted_even = kept.1.0

  -- cell
  pub accepted_cells : (p q : List ℤ) → SameCell j p q → ⊥
  accepted_cells = kept.1.1.0

  -- link
  pub accepted_clear : All Clear j
  accepted_clear = kept.1.1.1.0

-- the sizes of one accepted array are the same
pub sizes_same : (j : Job) (z z' : Extent) → Says j (Accepted z) → Says j (Accepted z') → z ≡ z'
sizes_same j z z' p q = let e = says_unique j (Accepted z) (Accepted z') p q in cc

-- an accepted job has no refusal
pub no_refusal : (j : Job) (z : Extent) (v : Verdict) → Says j (Accepted z) → Says j v → (number_of v ≡ 0 → ⊥) → ⊥
no_refusal j z v p q ne = ne (ap number_of (says_unique j v (Accepted z) q p))
