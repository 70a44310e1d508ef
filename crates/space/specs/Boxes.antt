-- 'Box: bounds l ≤ u for each' dimension, of any number of them; its points and their places in box order. (REFERENCE 1.2, 4.1)
use Rattle.std.specs.Prelude.{◌≡◌, Bool, true, false, cond, ◌&&◌, List, [], ◌∷◌, ℕ, ◌+◌, ◌*◌, ◌/◌, ◌%◌, ◌<◌, length, ℤ, pos, negsuc, ◌+ℤ◌, ◌≤ℤ◌, Option, None, Some}
use Rattle.std.specs.Int.Signed.{le_z, lt_z}
use Rattle.space.specs.Numbers.{steps}
use Rattle.space.specs.Vectors.{entries, Sized, dot_of, plus_of, minus_of, times_of}
use Rattle.space.specs.declared.boxes.Bounds.{Bounds}
use Rattle.space.specs.declared.boxes.Reach.{Reach}

-- the bounds of one dimension
pub record Side : Type 0 where
  pub low : ℤ
  pub high : ℤ

abbrev pub Box : Type 0
Box = List Side

abbrev pub side : ℤ → ℤ → Side
side l u = record { low = l; high = u }

-- the box that the code's bounds are
abbrev pub box_of : Bounds → Box
box_of b =
    side b.low.x0 b.high.x0 ∷ side b.low.x1 b.high.x1 ∷ side b.low.x2 b.high.x2 ∷ side b.low.x3 b.high.x3 ∷ []

-- the bounds are at most b in size
abbrev pub Within : ℕ → Bounds → Type 0
Within b s = Sized b (entries s.low) × Sized b (entries s.high)

-- p is a point of the box
unfoldable pub In : Box → List ℤ → Type 0
In [] [] = Unit {0}
In [] (x ∷ xs) = ⊥
In (s ∷ ss) [] = ⊥
In (s ∷ ss) (x ∷ xs) = (s.low ≤ℤ x) × (x ≤ℤ s.high) × In ss xs

-- y leads from a point of the box to a point of the box
pub record Apart (B : Box) (y : List ℤ) : Type 0 where
  pub long : length y ≡ length B
  pub from : List ℤ
  pub here : In B from
  pub there : In B (plus_of from y)

-- l ≤ u for each
unfoldable pub Solid : Box → Type 0
Solid [] = Unit {0}
Solid (s ∷ ss) = (s.low ≤ℤ s.high) × Solid ss

-- how many points a side has, and the box
abbrev pub across : Side → ℕ
across s = steps s.low (s.high +ℤ pos 1)

unfoldable pub count_of : Box → ℕ
count_of [] = 1
count_of (s ∷ ss) = across s * count_of ss

-- the place of a point in box order
unfoldable pub place_of : Box → List ℤ → ℕ
place_of [] xs = 0
place_of (s ∷ ss) [] = 0
place_of (s ∷ ss) (x ∷ xs) = steps s.low x * count_of ss + place_of ss xs

-- the point at a place
unfoldable pub point_of : Box → ℕ → List ℤ
point_of [] k = []
point_of (s ∷ ss) k = (s.low +ℤ pos (k / count_of ss)) ∷ point_of ss (k % count_of ss)

-- p is the point at place k, if there is one
abbrev pub PointAt : Box → ℕ → List ℤ → Type 0
PointAt B k p = k < count_of B → p ≡ point_of B k

-- whether x is a point of the box
abbrev pub inside : Box → List ℤ → Bool
inside [] [] = true
inside [] (x ∷ xs) = false
inside (s ∷ ss) [] = false
inside (s ∷ ss) (x ∷ xs) = le_z s.low x && (le_z x s.high && inside ss xs)

-- what f makes of the thing that is there, or else b
abbrev pub given : {A B : Type 0} → Option A → B → (A → B) → B
given None b f = b
given (Some a) b f = f a

-- the place of x - d, where it is in the box, for the point x at place k
unfoldable pub back_of : Box → List ℤ → ℕ → Option ℕ
back_of B d k = cond (inside B (minus_of (point_of B k) d)) (Some (place_of B (minus_of (point_of B k) d))) None

-- r is the least product of h and a point of the box
pub record Least (h : List ℤ) (B : Box) (r : ℤ) : Type 0 where
  pub met : (p : List ℤ) × In B p × (dot_of h p ≡ r)
  pub below : (p : List ℤ) → In B p → r ≤ℤ dot_of h p

-- and the greatest
pub record Greatest (h : List ℤ) (B : Box) (r : ℤ) : Type 0 where
  pub met : (p : List ℤ) × In B p × (dot_of h p ≡ r)
  pub above : (p : List ℤ) → In B p → dot_of h p ≤ℤ r

-- the corner at which the product is least: of each side the end that the sign of the row's entry picks
unfoldable pub corner_of : List ℤ → Box → List ℤ
corner_of [] B = []
corner_of (h ∷ hs) [] = []
corner_of (h ∷ hs) (s ∷ ss) = cond (lt_z h (pos 0)) s.high s.low ∷ corner_of hs ss

-- the least product, and the greatest, at the corner of the opposite row (proofs/ExtremeLaws: they are `Least` and `Greatest`)
unfoldable pub least_of : List ℤ → Box → ℤ
least_of h B = dot_of h (corner_of h B)

unfoldable pub greatest_of : List ℤ → Box → ℤ
greatest_of h B = dot_of h (corner_of (times_of (negsuc 0) h) B)

-- from the least to the greatest
abbrev pub reach : List ℤ → Box → Side
reach h B = side (least_of h B) (greatest_of h B)

-- r holds the ends of a row's reach, and how many numbers it has
pub record Reaches (h : List ℤ) (B : Box) (r : Reach) : Type 0 where
  pub low : r.low ≡ least_of h B
  pub high : r.high ≡ greatest_of h B
  pub count : r.count ≡ across (reach h B)
