-- Numbers as they are printed, in ASCII. (REFERENCE 6)
use Rattle.std.specs.Prelude.{Bool, true, false, List, [], ◌∷◌, ◌++◌, ℕ, zero, suc, ◌+◌, ◌/◌, ◌%◌, ltb, ℤ, pos, negsuc}
use Rattle.print.specs.declared.numbers.Number.{Number}
use Rattle.print.specs.declared.numbers.Number.TheVariants.{Count, Signed}

-- the digits before the last one, of which a number below 10 has none
abbrev pub leading : Bool → List ℕ → List ℕ
leading true l = []
leading false l = l

-- the decimal digits of n, the most significant first: all of them where there are at most f
unfoldable pub digits : ℕ → ℕ → List ℕ
digits zero n = []
digits (suc f) n = leading (ltb n 10) (digits f (n / 10)) ++ ((48 + n % 10) ∷ [])

-- a number of 64 bits, a `-` before the digits of a negative one; 20 digits hold them all
unfoldable pub decimal : ℤ → List ℕ
decimal (pos n) = digits 20 n
decimal (negsuc n) = 45 ∷ digits 20 (suc n)

-- the value of a number that is printed
abbrev pub value_of : Number → ℤ
value_of (Count n) = pos n
value_of (Signed z) = z
