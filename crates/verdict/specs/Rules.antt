-- 'Meaning of the verdict': precedence, hop, cell and link. (REFERENCE 3.3 to 3.6)
use Rattle.std.specs.Prelude.{◌≡◌, List, ℕ, ◌<◌, ℤ, pos, nat_abs, ◌*ℤ◌, ◌≤ℤ◌}
use Rattle.std.specs.Int.{◌∣◌}
use Rattle.space.specs.Vectors.{minus_of, times_of}
use Rattle.space.specs.Order.{Before}
use Rattle.space.specs.Boxes.{Box, In}
use Rattle.job.specs.declared.record.Job.{Job}
use Rattle.job.specs.Refusals.{Checks, done, check}
use Rattle.job.specs.Record.{box, stream, along}
use Rattle.verdict.specs.Mapping.{H, S, g, Stationary, hop, delay}
use Rattle.verdict.specs.Collisions.{senders, IsCollision}

-- 'Precedence: Hd ≥ 1 for every stream'
abbrev pub Ahead : Job → ℕ → Type 0
Ahead j s = pos 1 ≤ℤ H j (along j s)

-- 'Hop: if Sd is not 0, g divides Hd'
abbrev pub Even : Job → ℕ → Type 0
Even j s = (Stationary j s → ⊥) → g j s ∣ nat_abs (H j (along j s))

-- points p, q of the box, p before q in box order
pub record Ordered (B : Box) (p q : List ℤ) : Type 0 where
  pub first : In B p
  pub second : In B q
  pub order : Before p q

-- 'Cell: no two different box points have equal H and equal S'
pub record SameCell (j : Job) (p q : List ℤ) : Type 0 where
  pub pair : Ordered (box j) p q
  pub time : H j p ≡ H j q
  pub place : S j p ≡ S j q

-- 'Link, only where Sd is not 0. Take points p, q, p before q in box order, y = q - p, and suppose a whole number f has Sy = f·e and Hy = f·w'
pub record Collides (j : Job) (s : ℕ) (p q : List ℤ) (f : ℤ) : Type 0 where
  pub moving : Stationary j s → ⊥
  pub pair : Ordered (senders j s) p q
  pub place : S j (minus_of q p) ≡ times_of f (hop j s)
  pub time : H j (minus_of q p) ≡ f *ℤ delay j s
  pub collide : IsCollision (stream j s).kind (along j s) (g j s) (minus_of q p) f

-- two tokens of the stream from p and q collide; and that no tokens of it do
abbrev pub CollidesSome : Job → ℕ → List ℤ → List ℤ → Type 0
CollidesSome j s p q = (f : ℤ) × Collides j s p q f

abbrev pub Clear : Job → ℕ → Type 0
Clear j s = (p q : List ℤ) (f : ℤ) → Collides j s p q f → ⊥

-- of every stream
abbrev pub All : (Job → ℕ → Type 0) → Job → Type 0
All P j = (s : ℕ) → s < j.m → P j s

-- 'First broken rule: precedence over all streams, then hop over all streams, then cell, then link over all streams', after the limits
abbrev pub rules : Job → Checks
rules j = check 9 (All Ahead j) (check 10 (All Even j) (check 11 ((p q : List ℤ) → SameCell j p q → ⊥) (check 12 (All Clear j) done)))
