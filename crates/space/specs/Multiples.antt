-- 'a whole multiple of d': which one y is, negative and zero included, or that it is none. (REFERENCE 3.6)
use Rattle.std.specs.Prelude.{◌≡◌, Option, Some, None, List, ℤ}
use Rattle.space.specs.Vectors.{times_of}

-- what an answer says of y and d
abbrev pub TellsMultiple : List ℤ → List ℤ → Option ℤ → Type 0
TellsMultiple y d (Some z) = y ≡ times_of z d
TellsMultiple y d None = (z : ℤ) → y ≡ times_of z d → ⊥
