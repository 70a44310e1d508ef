-- Laws of decimal numbers: how they are put digit by digit, that they fit into 21 bytes, and that they say the number.
use mathlib.Core.Path.{◌≡◌, refl, sym, ap, ◌∙◌}
use mathlib.Core.Bool.{Bool, true, false}
use mathlib.Core.List.{List, [], ◌∷◌, ◌++◌}
use Prim.Native.Nat.{ℕ, zero, suc, ◌+◌, ◌*◌, ◌-◌, ◌/◌, ◌%◌, ◌^◌, ◌≤◌, ◌<◌}
use native.Mathlib.Nat.{pow-suc}
use native.Mathlib.Numerals.{sub-one}
use native.Mathlib.Omega.{arith}
use borrow.Author.Tests.{lt-ltb, le-ltb, ltb-true}
use lib.Dec.{ltb}
use lib.IntN.{ℤ, pos, negsuc, nat_abs}
use lib.ListN.{length, set, length-append}
use lib.Signed.{lt_z}
use mir.Syntax.{w64}
use mir.Val.{SFits}
use Rattle.buffer.specs.Put.{Fits, Put}
use Rattle.print.specs.Decimal.{leading, digits, decimal}
use Rattle.buffer.proofs.Putting.{one, place, and_then, first, left, put_as, fits_as}
use Rattle.space.proofs.Machine.{never, held, back}

-- ---- by the tests of `put_digits`
pub digits_none : (f n : ℕ) → f ≡ 0 → digits f n ≡ []
unfolding digits
digits_none f n e = ap (λ (k : ℕ). digits k n) e

digits_last : (f n : ℕ) → (f ≡ 0 → ⊥) → n < 10 → digits f n ≡ (48 + n % 10) ∷ []
unfolding digits
digits_last zero n e h = absurd (e refl)
digits_last (suc f) n e h = simp (lt-ltb n 10 h)

digits_more : (f n : ℕ) → (f ≡ 0 → ⊥) → 10 ≤ n → digits f n ≡ digits (f - 1) (n / 10) ++ ((48 + n % 10) ∷ [])
unfolding digits
digits_more zero n e h = absurd (e refl)
digits_more (suc f) n e h = simp (le-ltb n 10 h, sub-one (suc f))

module _ {s : List ℕ} {at : ℕ} (f n : ℕ) (some : f ≡ 0 → ⊥) (room : Fits s at (digits f n)) where
  -- one digit
  module _ (small : n < 10) where
    pub only_place : at < length s
    only_place = place (fits_as (digits_last f n some small) room)

    pub only_put : Put s at (digits f n) (at + 1) (set s at (48 + n % 10))
    only_put = put_as (digits_last f n some small) (one s at (48 + n % 10) only_place)

  -- those before the last, and the last
  module _ (large : 10 ≤ n) where
    both_room : Fits s at (digits (f - 1) (n / 10) ++ ((48 + n % 10) ∷ []))
    both_room = fits_as (digits_more f n some large) room

    pub leading_room : Fits s at (digits (f - 1) (n / 10))
    leading_room = first (digits (f - 1) (n / 10)) ((48 + n % 10) ∷ []) both_room

    module _ {k : ℕ} {t : List ℕ} (p : Put s at (digits (f - 1) (n / 10)) k t) where
      pub last_place : k < length t
      last_place = place (left (digits (f - 1) (n / 10)) ((48 + n % 10) ∷ []) both_room p)

      pub last_put : Put s at (digits f n) (k + 1) (set t k (48 + n % 10))
      last_put = put_as (digits_more f n some large) (and_then p leading_room (one t k (48 + n % 10) last_place))

-- ---- by the test of `put_signed`
pub decimal_minus : (x : ℤ) → lt_z x (pos 0) ≡ true → decimal x ≡ (45 ∷ []) ++ digits 20 (nat_abs x)
unfolding decimal
decimal_minus (pos n) t = absurd (omega (arith, ltb-true))
decimal_minus (negsuc n) t = refl

pub decimal_plus : (x : ℤ) → lt_z x (pos 0) ≡ false → decimal x ≡ digits 20 (nat_abs x)
unfolding decimal
decimal_plus (pos n) t = refl
decimal_plus (negsuc n) t = never t

-- a signed number that is read back from its bits
pub decimal_held : {x : ℤ} → SFits w64 x → decimal x ≡ decimal (held x)
decimal_held size = ap decimal (sym (back size))

-- ---- lengths
digits_length : (f n : ℕ) → length (digits f n) ≤ f
unfolding digits
digits_length zero n = omega arith
digits_length (suc f) n = by_test (ltb n 10) (digits f (n / 10)) (48 + n % 10) f (digits_length f (n / 10))
  where
    by_test : (t : Bool) (l : List ℕ) (d f : ℕ) → length l ≤ f → length (leading t l ++ (d ∷ [])) ≤ suc f
    by_test true l d f h = omega arith
    by_test false l d f h = omega (arith, length-append l (d ∷ []))

pub decimal_length : (z : ℤ) → length (decimal z) ≤ 21
unfolding decimal
decimal_length (pos n) = omega (arith, digits_length 20 n)
decimal_length (negsuc n) = omega (arith, digits_length 20 (suc n))

-- ---- read back
-- the number that digits say, after k
abbrev pub read_on : ℕ → List ℕ → ℕ
read_on k [] = k
read_on k (d ∷ ds) = read_on (k * 10 + (d - 48)) ds

read_append : (k : ℕ) (xs ys : List ℕ) → read_on k (xs ++ ys) ≡ read_on (read_on k xs) ys
read_append k [] ys = refl
read_append k (d ∷ ds) ys = read_append (k * 10 + (d - 48)) ds ys

-- the digits of a number that f of them hold say the number; those of 64 bits are below 10 ^ 20
pub digits_read : (f n : ℕ) → n < 10 ^ f → read_on 0 (digits f n) ≡ n
unfolding digits
digits_read zero n h = omega (arith, h)
digits_read (suc f) n h = by_test (ltb n 10) n (digits f (n / 10)) (ltb-true n 10) (λ e. digits_read f (n / 10) (omega (arith, h, pow-suc 10 f)))
  where
    by_test : (t : Bool) (n : ℕ) (l : List ℕ) → (t ≡ true → n < 10) → (t ≡ false → read_on 0 l ≡ n / 10) → read_on 0 (leading t l ++ ((48 + n % 10) ∷ [])) ≡ n
    by_test true n l small large = let h = small refl in omega arith
    by_test false n l small large = read_append 0 l ((48 + n % 10) ∷ []) ∙ ap (λ (k : ℕ). k * 10 + (48 + n % 10 - 48)) (large refl) ∙ omega arith

-- the least number of 64 bits, -9223372036854775808
pub least : decimal (negsuc 9223372036854775807) ≡ 45 ∷ 57 ∷ 50 ∷ 50 ∷ 51 ∷ 51 ∷ 55 ∷ 50 ∷ 48 ∷ 51 ∷ 54 ∷ 56 ∷ 53 ∷ 52 ∷ 55 ∷ 55 ∷ 53 ∷ 56 ∷ 48 ∷ 56 ∷ []
unfolding digits decimal
least = refl
