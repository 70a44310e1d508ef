-- 'Room layout: stream by stream, cell by cell, w places each': the band of one stream, and what arrives at its cells. (REFERENCE 4.3, 4.5)
use Rattle.std.specs.Prelude.{◌≡◌, List, [], ◌∷◌, ℕ, ◌+◌, ◌*◌, ◌<◌, length, get_or, ℤ}
use Rattle.space.specs.Numbers.{Size, limit}
use Rattle.space.specs.Boxes.{Box, side, count_of, back_of, given}
use Rattle.bands.specs.declared.rectangle.Rectangle.{Rectangle}
use Rattle.bands.specs.declared.Band.{Band}

-- the rectangle of cells, and one hop
abbrev pub rectangle_of : Rectangle → Box
rectangle_of r = side r.low0 r.high0 ∷ side r.low1 r.high1 ∷ []

abbrev pub hop_of : Band → List ℤ
hop_of b = b.hop0 ∷ b.hop1 ∷ []

-- what stands at place r of row x, in rows of n
abbrev pub at : ℕ → List ℕ → ℕ → ℕ → ℕ
at n l x r = get_or l (x * n + r) 0

-- 'the arrival at cell x is place t mod w of cell x - e, or 0 where x - e is outside'
abbrev pub arrival_in : Rectangle → Band → ℕ → List ℕ → ℕ → ℕ
arrival_in r b slot places x = given (back_of (rectangle_of r) (hop_of b) x) 0 (λ (y : ℕ). at b.w places y slot)

-- what the code asks of a hop
pub record Short (b : Band) : Type 0 where
  pub rows : Size limit b.hop0
  pub columns : Size limit b.hop1

-- a band lent to be read or rewritten at one place of every cell
pub record Lent (r : Rectangle) (b : Band) (slot : ℕ) (places : List ℕ) : Type 0 where
  pub short : Short b
  pub inside : slot < b.w
  pub size : length places ≡ count_of (rectangle_of r) * b.w

-- place slot of every cell holds what arrived there before, and every other place what it held
pub record Shifted (r : Rectangle) (b : Band) (slot : ℕ) (before after : List ℕ) : Type 0 where
  pub size : length after ≡ length before
  pub taken : (x : ℕ) → x < count_of (rectangle_of r) → at b.w after x slot ≡ arrival_in r b slot before x
  pub others : (x q : ℕ) → x < count_of (rectangle_of r) → q < b.w → (q ≡ slot → ⊥) → at b.w after x q ≡ at b.w before x q
