-- A verdict is said where its rule is the first that is broken: what to show for each reply.
use mathlib.Core.Path.{refl}
use mathlib.Core.Logic.{inl, inr}
use mathlib.Core.List.{List}
use Prim.Native.Nat.{ℕ, ◌<◌}
use lib.IntN.{ℤ}
use Rattle.space.specs.Vectors.{entries}
use Rattle.job.specs.declared.record.Job.{Job}
use Rattle.job.specs.Refusals.{First}
use Rattle.job.specs.Limits.{limits, Acceptable}
use Rattle.job.proofs.Refusing.{stop_first, then_first, passes}
use Rattle.verdict.specs.Extents.{ExtentOf}
use Rattle.verdict.specs.Rules.{Ahead, Even, SameCell, Clear, All, rules}
use Rattle.verdict.specs.Verdicts.{Lowest, Claims, Says, number_of}
use Rattle.verdict.specs.declared.judge.Extent.{Extent}
use Rattle.verdict.specs.declared.judge.Pair.{Pair}
use Rattle.verdict.specs.declared.judge.Collision.{Collision}
use Rattle.verdict.specs.declared.judge.Verdict.{Verdict}
use Rattle.verdict.specs.declared.judge.Verdict.TheVariants.{Accepted, Limit, Precedence, Hop, Cell, Link}

-- a limit is broken
pub says_limit : {j : Job} {r : ℕ} → Claims j (Limit r) → Says j (Limit r)
says_limit {j} {r} c = record { first = stop_first (limits j) (rules j) r c.1 c.0; claim = c }

-- a stream breaks P, so not all keep it
not_all : {P : ℕ → Type 0} {m s : ℕ} → Lowest P m s → ((t : ℕ) → t < m → P t) → ⊥
not_all {s = s} w k = w.broken (k s w.below)

module _ {j : Job} (limited : Acceptable j) where
  by_rules : (v : Verdict) → First (rules j) (number_of v) → Claims j v → Says j v
  by_rules v f c = record { first = then_first (limits j) (rules j) (number_of v) (passes limited) f; claim = c }

  -- precedence is broken
  pub says_precedence : {s : ℕ} → Lowest (Ahead j) j.m s → Says j (Precedence s)
  says_precedence {s} c = by_rules (Precedence s) (inr (not_all c, refl)) c

  module _ (ahead : All Ahead j) where
    -- the hop rule is
    pub says_hop : {s : ℕ} → Lowest (Even j) j.m s → Says j (Hop s)
    says_hop {s} c = by_rules (Hop s) (inl (ahead, inr (not_all c, refl))) c

    module _ (even : All Even j) where
      -- the cell rule is
      pub says_cell : {c : Pair} → Claims j (Cell c) → Says j (Cell c)
      says_cell {c} f = by_rules (Cell c) (inl (ahead, inl (even, inr ((λ k. k (entries c.p) (entries c.q) f.holds), refl)))) f

      module _ (apart : (p q : List ℤ) → SameCell j p q → ⊥) where
        -- the link rule is
        pub says_link : {c : Collision} → Claims j (Link c) → Says j (Link c)
        says_link {c} f = by_rules (Link c) (inl (ahead, inl (even, inl (apart, inr (not_all f.0, refl))))) f

        -- no rule is
        pub says_accepted : {z : Extent} → All Clear j → ExtentOf j z → Says j (Accepted z)
        says_accepted {z} clear c = by_rules (Accepted z) (inl (ahead, inl (even, inl (apart, inl (clear, refl))))) c
