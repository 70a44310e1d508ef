-- The rules of document 01, 'Meaning of the verdict', as demand 3 takes them from an accepted verdict: the theorem uses these and nothing else of the verdict.
use mathlib.Core.Path.{◌≡◌}
use mathlib.Core.List.{List}
use Prim.Native.Nat.{ℕ, ◌-◌, ◌<◌, ◌≤◌, ◌∣◌}
use lib.IntN.{ℤ, pos, nat_abs, ◌*ℤ◌}
use lib.Signed.{◌≤ℤ◌}
use Rattle.space.specs.Vectors.{minus_of, times_of}
use Rattle.job.specs.declared.record.Job.{Job}
use Rattle.job.specs.Limits.{Acceptable}
use Rattle.job.specs.Record.{box, stream, along}
use Rattle.verdict.specs.Mapping.{H, S, g, Stationary, hop as e, delay as w}
use Rattle.verdict.specs.Collisions.{senders}
use Rattle.verdict.specs.Rules.{Ordered}

-- 'Sd is not 0', and the two kinds of such a stream's tokens
abbrev pub Moving : Job → ℕ → Type 0
Moving j s = Stationary j s → ⊥

abbrev pub Through : Job → ℕ → Type 0
Through j s = (stream j s).kind ≡ 0

abbrev pub Local : Job → ℕ → Type 0
Local j s = (stream j s).kind ≡ 1

-- 'Take points p, q, p before q in box order, y = q - p, and suppose a whole number f has Sy = f·e and Hy = f·w'
pub record HopsApart (j : Job) (s : ℕ) (p q : List ℤ) (f : ℤ) : Type 0 where
  pub pair : Ordered (senders j s) p q
  pub place : S j (minus_of q p) ≡ times_of f (e j s)
  pub time : H j (minus_of q p) ≡ f *ℤ w j s

pub record Obeys (j : Job) : Type 0 where
  -- no limit of 1 to 8 refuses the job
  pub limits : Acceptable j
  -- 'Precedence: Hd ≥ 1 for every stream'
  pub precedence : (s : ℕ) → s < j.m → pos 1 ≤ℤ H j (along j s)
  -- 'Hop: if Sd is not 0, g divides Hd'
  pub hop : (s : ℕ) → s < j.m → Moving j s → g j s ∣ nat_abs (H j (along j s))
  -- 'Cell: no two different box points have equal H and equal S'
  pub cell : (p q : List ℤ) → Ordered (box j) p q → H j p ≡ H j q → S j p ≡ S j q → ⊥
  -- 'Link, only where Sd is not 0'. 'Local: a collision if 1 ≤ |f| ≤ g - 1'
  pub link_local : (s : ℕ) → s < j.m → Local j s → Moving j s → (p q : List ℤ) (f : ℤ) → HopsApart j s p q f → 1 ≤ nat_abs f → nat_abs f ≤ g j s - 1 → ⊥
  -- 'Through: a collision unless y is a whole multiple of d'
  pub link_through : (s : ℕ) → s < j.m → Through j s → Moving j s → (p q : List ℤ) (f : ℤ) → HopsApart j s p q f → ((z : ℤ) → minus_of q p ≡ times_of z (along j s) → ⊥) → ⊥
