-- Euclid's loop: what is the greatest common divisor of x and y is that of a and b. The measure is y.
use native.Mathlib.Nat.{mod-lt}
use native.Mathlib.Omega.{arith}
use Rattle.space.proofs.DivisorLaws.{gcd_zero, gcd_turn}
use Rattle.space.proofs.divisor.gcd.Goals as goal

pub loop-y-init : goal.loop-y-init
loop-y-init c = λ g p. p

pub nonzero_rem-rest : goal.nonzero_rem-rest
nonzero_rem-rest c = omega arith

pub loop-y-smaller : goal.loop-y-smaller
loop-y-smaller c = mod-lt _ (omega arith)

pub loop-y-preserved : goal.loop-y-preserved
loop-y-preserved c = λ g p. c.loop-y.invariant g (gcd_turn _ _ g p)

pub returns : goal.returns
returns c = c.loop-y.invariant _ (rw c.loop-y-test.false (gcd_zero _))
