-- What stands behind the n entries of a vector, and the n sides of a box, where a record has room for more.
use mathlib.Core.List.{List}
use Prim.Native.Nat.{ℕ}
use lib.ListN.{replicate}
use lib.IntN.{ℤ, pos}
use Rattle.space.specs.Boxes.{Box, side}

-- k entries of 0
abbrev pub zeros : ℕ → List ℤ
zeros k = replicate k (pos 0)

-- k sides of 0..0
abbrev pub flat : ℕ → Box
flat k = replicate k (side (pos 0) (pos 0))
