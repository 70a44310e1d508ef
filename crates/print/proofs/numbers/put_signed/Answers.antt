-- A `-` and from where it ends the digits of the size, or these digits alone.
use mathlib.Core.Path.{◌≡◌, sym, ap, ◌∙◌}
use mathlib.Core.Bool.{true, false}
use mathlib.Core.List.{[], ◌∷◌, ◌++◌}
use Prim.Native.Nat.{ℕ}
use lib.IntN.{ℤ, pos, nat_abs}
use lib.Signed.{lt_z}
use mir.Syntax.{w64}
use mir.Val.{SFits}
use Rattle.space.proofs.Machine.{held}
use Rattle.buffer.proofs.Putting.{and_then, first, left, put_as, fits_as}
use Rattle.print.specs.Decimal.{digits, decimal}
use Rattle.print.proofs.Numerals.{decimal_minus, decimal_plus, decimal_held}
use Rattle.print.proofs.numbers.put_signed.Goals as goal

-- what is put, by the test
minus : {x : ℤ} {n : ℕ} → SFits w64 x → lt_z (held x) (pos 0) ≡ true → n ≡ nat_abs (held x) → decimal x ≡ (45 ∷ []) ++ digits 20 n
minus {x} fits t e = decimal_held fits ∙ decimal_minus (held x) t ∙ ap (λ (n : ℕ). (45 ∷ []) ++ digits 20 n) (sym e)

plus : {x : ℤ} {n : ℕ} → SFits w64 x → lt_z (held x) (pos 0) ≡ false → n ≡ nat_abs (held x) → decimal x ≡ digits 20 n
plus {x} fits t e = decimal_held fits ∙ decimal_plus (held x) t ∙ ap (digits 20) (sym e)

pub put_bytes-next-requires : goal.put_bytes-next-requires
put_bytes-next-requires c = first (45 ∷ []) _ (fits_as (minus c.ranges.x (cc) c.unsigned_abs-size.ensures.value) c.requires)

pub put_digits-requires : goal.put_digits-requires
put_digits-requires c = left (45 ∷ []) _ (fits_as (minus c.ranges.x (cc) c.unsigned_abs-size.ensures.value) c.requires) c.put_bytes-next.ensures

pub returns-then-x-lt0 : goal.returns-then-x-lt0
returns-then-x-lt0 c =
    let e = minus c.ranges.x (cc) c.unsigned_abs-size.ensures.value in
    put_as e (and_then c.put_bytes-next.ensures (first (45 ∷ []) _ (fits_as e c.requires)) c.put_digits.ensures)

pub put_digits-requires-2 : goal.put_digits-requires-2
put_digits-requires-2 c = fits_as (plus c.ranges.x (cc) c.unsigned_abs-size.ensures.value) c.requires

pub returns : goal.returns
returns c = put_as (plus c.ranges.x (cc) c.unsigned_abs-size.ensures.value) c.put_digits-2.ensures
