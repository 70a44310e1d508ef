-- Entry by entry from the last: those that are at their high bound are the last of their sides, and the one before them rises.
use Prim.Native.Nat.{◌+◌}
use native.Mathlib.Omega.{arith}
use lib.IntN.{ℤ, pos, ◌+ℤ◌}
use Rattle.std.proofs.lemmas.Int.{ints}
use Rattle.space.specs.Numbers.{Size, difference}
use Rattle.space.proofs.Machine.{Is, held, arg, lit, add, fit, read}
use Rattle.space.proofs.BoxLaws.{inside_sized}
use Rattle.space.proofs.NextLaws.{last_rises, third_rises, second_rises, first_rises}
use Rattle.space.proofs.boxes.next.Goals as goal

-- one more than a field
more : {x : ℤ} → Size difference x → Is (difference + 1) (x +ℤ pos 1) (held x +ℤ held (pos 1))
more p = add (arg p tt) (lit 1 tt) tt

pub returns-then-p-u : goal.returns-then-p-u
returns-then-p-u c k e h =
    last_rises c.args.b c.args.p c.requires.1 k e h (grind (arith, ints))
    (omega (arith, ints)) (omega (arith, ints)) (omega (arith, ints)) (omega (arith, ints))

pub returns-then-p-u-2 : goal.returns-then-p-u-2
returns-then-p-u-2 c k e h =
    third_rises c.args.b c.args.p c.requires.1 k e h (grind (arith, ints)) (grind (arith, ints))
    (omega (arith, ints)) (omega (arith, ints)) (omega (arith, ints)) (omega (arith, ints))

pub returns-then-p-u-3 : goal.returns-then-p-u-3
returns-then-p-u-3 c k e h =
    second_rises c.args.b c.args.p c.requires.1 k e h (grind (arith, ints)) (grind (arith, ints)) (grind (arith, ints))
    (omega (arith, ints)) (omega (arith, ints)) (omega (arith, ints)) (omega (arith, ints))

pub overflow_add-result-2 : goal.overflow_add-result-2
overflow_add-result-2 c = fit (more (inside_sized c.args.b c.requires.0.0 c.requires.0.1 c.requires.1).each.0)

pub returns : goal.returns
returns c k e h =
    first_rises c.args.b c.args.p c.requires.1 k e h (grind (arith, ints)) (grind (arith, ints)) (grind (arith, ints))
    (read (more (inside_sized c.args.b c.requires.0.0 c.requires.0.1 c.requires.1).each.0)) (omega (arith, ints)) (omega (arith, ints)) (omega (arith, ints))
