-- The words of Mapping, Rules and Extents over lists of any length: a job of n entries and k place rows. Only `Rules` speaks of it.
-- At all that a record has they are its rules, and at what is used of it they hold exactly if these do.
use mathlib.Core.Path.{◌≡◌}
use mathlib.Core.List.{List, ◌++◌, map, foldr}
use Prim.Native.Nat.{ℕ, zero, suc, ◌+◌, ◌*◌, ◌<◌, ◌∣◌}
use lib.ListN.{length}
use lib.IntN.{ℤ, pos, nat_abs, ◌*ℤ◌}
use lib.Signed.{◌≤ℤ◌, quot_z}
use Rattle.space.specs.Numbers.{up}
use Rattle.space.specs.Vectors.{dot_of, minus_of, times_of}
use Rattle.space.specs.Divisors.{sizes_of, gcd_of}
use Rattle.space.specs.Boxes.{Side, Box, count_of, reach}
use Rattle.dimensions.proofs.Zeros.{zeros}
use Rattle.dimensions.proofs.Designs.{Design}
use Rattle.verdict.specs.Mapping.{or_one}
use Rattle.verdict.specs.Collisions.{IsCollision}
use Rattle.verdict.specs.Rules.{Ordered}

-- 'Hx, Sx for the products'
abbrev pub H : Design → List ℤ → ℤ
H D x = dot_of D.time x

abbrev pub S : Design → List ℤ → List ℤ
S D x = map (λ (r : List ℤ). dot_of r x) D.rows

-- 'Sd = 0 makes it stationary'
abbrev pub Stationary : Design → ℕ → Type 0
Stationary D s = S D (D.along s) ≡ zeros (length D.rows)

-- 'g is the gcd of the entries of Sd, e = Sd/g one hop and w = Hd/g the ticks per hop'
abbrev pub g : Design → ℕ → ℕ
g D s = foldr gcd_of 0 (sizes_of (S D (D.along s)))

abbrev pub hops : Design → ℕ → ℕ
hops D s = or_one (g D s)

abbrev pub hop : Design → ℕ → List ℤ
hop D s = map (λ (z : ℤ). quot_z z (pos (hops D s))) (S D (D.along s))

abbrev pub delay : Design → ℕ → ℤ
delay D s = quot_z (H D (D.along s)) (pos (hops D s))

-- precedence
abbrev pub Ahead : Design → ℕ → Type 0
Ahead D s = pos 1 ≤ℤ H D (D.along s)

-- hop
abbrev pub Even : Design → ℕ → Type 0
Even D s = (Stationary D s → ⊥) → g D s ∣ nat_abs (H D (D.along s))

-- cell
pub record SameCell (D : Design) (p q : List ℤ) : Type 0 where
  pub pair : Ordered D.box p q
  pub time : H D p ≡ H D q
  pub place : S D p ≡ S D q

-- link
abbrev pub senders : Design → ℕ → Box
senders D s = D.box

pub record Collides (D : Design) (s : ℕ) (f : ℤ) (p q : List ℤ) : Type 0 where
  pub moving : Stationary D s → ⊥
  pub pair : Ordered (senders D s) p q
  pub place : S D (minus_of q p) ≡ times_of f (hop D s)
  pub time : H D (minus_of q p) ≡ f *ℤ delay D s
  pub collide : IsCollision (D.kind s) (D.along s) (g D s) (minus_of q p) f

abbrev pub CollidesSome : Design → ℕ → List ℤ → List ℤ → Type 0
CollidesSome D s p q = (f : ℤ) × Collides D s f p q

abbrev pub Clear : Design → ℕ → Type 0
Clear D s = (p q : List ℤ) (f : ℤ) → Collides D s f p q → ⊥

-- of each of m streams
abbrev pub All : (Design → ℕ → Type 0) → ℕ → Design → Type 0
All P m D = (s : ℕ) → s < m → P D s

-- 'Cells are the whole rectangle', 'the count of ticks', 'Room R = cells × sum of the w'
abbrev pub rectangle : Design → Box
rectangle D = map (λ (r : List ℤ). reach r D.box) D.rows

abbrev pub clock : Design → Side
clock D = reach D.time D.box

abbrev pub delays : Design → ℕ → ℕ
delays D zero = 0
delays D (suc m) = delays D m + up (delay D m)

abbrev pub room : Design → ℕ → ℕ
room D m = count_of (rectangle D) * delays D m

-- p and q are two of which R holds, each with k zeros behind
abbrev pub Filled : ℕ → (List ℤ → List ℤ → Type 0) → List ℤ → List ℤ → Type 0
Filled k R p q = (p' q' : List ℤ) × (p ≡ p' ++ zeros k) × (q ≡ q' ++ zeros k) × R p' q'
