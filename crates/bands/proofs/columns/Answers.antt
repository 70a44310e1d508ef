-- From the first column to the last, and one.
use mathlib.Core.Path.{ap, ◌∙◌}
use Prim.Native.Nat.{◌+◌}
use native.Mathlib.Omega.{arith}
use lib.IntN.{ℤ, nat_abs, ◌-ℤ◌}
use Rattle.space.specs.Numbers.{limit}
use Rattle.space.proofs.Parts.{int, difference}
use Rattle.space.proofs.Machine.{Is, held, arg, sub, fit, read, cast_need}
use Rattle.bands.specs.declared.rectangle.Rectangle.{Rectangle}
use Rattle.bands.proofs.BandLaws.{columns_are}
use Rattle.bands.proofs.columns.Goals as goal

module _ (r : Rectangle) where
  wide : Is (limit + limit) (r.high1 -ℤ r.low1) (held r.high1 -ℤ held r.low1)
  wide = sub (arg r.columns.1 tt) (arg r.columns.0 tt) tt

pub overflow_sub-result : goal.overflow_sub-result
overflow_sub-result c = fit (wide c.args.r)

pub overflow_cast-result : goal.overflow_cast-result
overflow_cast-result c = let r = c.args.r in let l = r.columns.2 in cast_need (wide r) (omega (int, difference r.high1 r.low1))

pub overflow_add-result : goal.overflow_add-result
overflow_add-result c = let e = ap nat_abs (read (wide c.args.r)) in omega (arith, (wide c.args.r).sized.size)

pub returns : goal.returns
returns c =
    ap (λ (z : ℤ). nat_abs z + 1) (read (wide c.args.r)) ∙ columns_are c.args.r.low1 c.args.r.high1 c.args.r.columns.2
