-- Euclid's loop: what is the greatest common divisor of x and y is that of a and b. The measure is y.
use Prim.Native.Nat.{ℕ}
use mathlib.Core.List.{[], ◌∷◌}
use Rattle.space.specs.Divisors.{GcdOf}
use Rattle.space.proofs.divisor.gcd.Given as goal

abbrev pub invariant-loop-y : goal.invariant-loop-y
invariant-loop-y l = (g : ℕ) → GcdOf (l.x ∷ l.y ∷ []) g → GcdOf (l.a ∷ l.b ∷ []) g

abbrev pub decreases-loop-y : goal.decreases-loop-y
decreases-loop-y l = l.y
