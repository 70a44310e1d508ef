-- Each kind of number is a function's.
use mathlib.Core.Path.{◌≡◌, ap, ◌∙◌}
use Rattle.space.proofs.Machine.{in_range}
use Rattle.buffer.proofs.Putting.{put_as, fits_as}
use Rattle.print.specs.Decimal.{decimal, value_of}
use Rattle.print.specs.declared.numbers.Number.{Number}
use Rattle.print.proofs.Numerals.{decimal_held}
use Rattle.print.proofs.numbers.put_number.Goals as goal

same : {x y : Number} → x ≡ y → decimal (value_of x) ≡ decimal (value_of y)
same e = ap (λ (x : Number). decimal (value_of x)) e

pub put_digits-requires : goal.put_digits-requires
unfolding decimal
put_digits-requires c = fits_as (same c.in-Count.is) c.requires

pub put_signed-requires : goal.put_signed-requires
put_signed-requires c =
    fits_as (same c.in-Signed.is ∙ decimal_held (in_range c.in-Signed.known_told-in-Signed-1-own.given.0.1)) c.requires

pub returns-in-Count : goal.returns-in-Count
unfolding decimal
returns-in-Count c =
    put_as (same c.in-Count.is) c.put_digits.ensures

pub returns-in-Signed : goal.returns-in-Signed
returns-in-Signed c =
    put_as (same c.in-Signed.is ∙ decimal_held (in_range c.in-Signed.known_told-in-Signed-1-own.given.0.1)) c.put_signed.ensures
