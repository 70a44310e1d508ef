-- The point after a point in box order: the last entry that can still rise does, and those behind it fall back to the low bound.
use mathlib.Core.Path.{◌≡◌, sym, ap, ◌∙◌}
use mathlib.Core.Logic.{⊎_elim}
use mathlib.Core.List.{List, [], ◌∷◌}
use Prim.Native.Nat.{ℕ, ◌+◌, ◌<◌}
use native.Mathlib.Omega.{arith}
use lib.IntN.{ℤ, pos, ◌+ℤ◌, ◌-ℤ◌}
use lib.Signed.{◌≤ℤ◌, ◌<ℤ◌}
use Rattle.space.specs.Numbers.{steps}
use Rattle.space.specs.declared.vector.Vector.{Vector}
use Rattle.space.specs.declared.boxes.Bounds.{Bounds}
use Rattle.space.specs.Vectors.{entries}
use Rattle.space.specs.Boxes.{Side, Box, side, box_of, In, count_of, place_of, point_of}
use Rattle.space.proofs.Parts.{int, sum, difference, magnitude}
use Rattle.space.proofs.Ints.{≤ℤ_or-<}
use Rattle.space.proofs.VectorLaws.{four}
use Rattle.space.proofs.BoxLaws.{lows_of, solid_in, in_solid, place_point, point_place}

-- q is the point after p
pub record Next (B : Box) (p q : List ℤ) : Type 0 where
  pub inside : In B q
  pub after : place_of B q ≡ place_of B p + 1

-- p is the last point: no entry can rise
pub Last : Box → List ℤ → Type 0
Last B p = place_of B p + 1 ≡ count_of B

-- the point after the one at place k is the one at place k + 1
pub next_point : (B : Box) (p q : List ℤ) (k : ℕ) → Next B p q → p ≡ point_of B k → k < count_of B → q ≡ point_of B (k + 1)
next_point B p q k n e h = sym (point_place B q n.inside) ∙ ap (point_of B) (n.after ∙ ap (λ (m : ℕ). m + 1) (ap (place_of B) e ∙ place_point B k h))

-- no point follows the last
pub last_none : (B : Box) (p : List ℤ) (k : ℕ) → Last B p → p ≡ point_of B k → k + 1 < count_of B → ⊥
unfolding Last
last_none B p k l e h = let m = ap (place_of B) e ∙ place_point B k (omega arith) in omega arith

-- ---- one side
rises : (l x : ℤ) → l ≤ℤ x → steps l (x +ℤ pos 1) ≡ steps l x + 1
rises l x h = omega (int, sum x (pos 1), difference x l, magnitude (x -ℤ l), difference (x +ℤ pos 1) l, magnitude ((x +ℤ pos 1) -ℤ l))

none : (l : ℤ) → steps l l ≡ 0
none l = omega (int, difference l l, magnitude (l -ℤ l))

-- ---- the low corner stands at place 0
lows_place : (B : Box) → place_of B (lows_of B) ≡ 0
unfolding place_of
lows_place [] = omega arith
lows_place (s ∷ ss) = rw (none s.low, lows_place ss) (omega arith)

-- an entry behind the first rises
pub next_behind : (s : Side) (ss : Box) (x : ℤ) (xs ys : List ℤ) → In (s ∷ ss) (x ∷ xs) → Next ss xs ys → Next (s ∷ ss) (x ∷ xs) (x ∷ ys)
unfolding In place_of
next_behind s ss x xs ys h n = let e = n.after in record { inside = (h.0, h.1, n.inside); after = rw e (omega arith) }

-- the first rises, where those behind it are the last
pub next_first : (s : Side) (ss : Box) (x : ℤ) (xs : List ℤ) → In (s ∷ ss) (x ∷ xs) → Last ss xs → x <ℤ s.high → Next (s ∷ ss) (x ∷ xs) ((x +ℤ pos 1) ∷ lows_of ss)
unfolding In place_of Last
next_first s ss x xs h l k =
    record {
      inside = (omega (int, sum x (pos 1), h.0), omega (int, sum x (pos 1)), solid_in ss (in_solid ss xs h.2));
      after = rw (rises s.low x h.0, lows_place ss, ← l) (omega arith);
    }

-- the last of a box: the first entry is high and those behind it are the last
pub last_more : (s : Side) (ss : Box) (x : ℤ) (xs : List ℤ) → In (s ∷ ss) (x ∷ xs) → s.high ≤ℤ x → Last ss xs → Last (s ∷ ss) (x ∷ xs)
unfolding In place_of count_of Last
last_more s ss x xs h k l =
    let e : x ≡ s.high = omega (int, h.1) in
    rw (← e, rises s.low x h.0, ← l) (omega arith)

pub last_nothing : Last [] []
unfolding place_of count_of Last
last_nothing = omega arith

-- ---- the point after p in a box of four sides: the last entry that is below its high bound rises, and those behind it fall back
module _ (b : Bounds) (p : Vector) (i : In (box_of b) (entries p)) (k : ℕ) (e : entries p ≡ point_of (box_of b) k) (h : k + 1 < count_of (box_of b)) where
  -- the point without its first entries, in the box without its first sides
  in1 : In (side b.low.x1 b.high.x1 ∷ side b.low.x2 b.high.x2 ∷ side b.low.x3 b.high.x3 ∷ []) (p.x1 ∷ p.x2 ∷ p.x3 ∷ [])
  unfolding In
  in1 = i.2

  in2 : In (side b.low.x2 b.high.x2 ∷ side b.low.x3 b.high.x3 ∷ []) (p.x2 ∷ p.x3 ∷ [])
  unfolding In
  in2 = in1.2

  in3 : In (side b.low.x3 b.high.x3 ∷ []) (p.x3 ∷ [])
  unfolding In
  in3 = in2.2

  follows : {q r : List ℤ} → r ≡ q → Next (box_of b) (entries p) q → r ≡ point_of (box_of b) (k + 1)
  follows {q} f n = f ∙ next_point (box_of b) (entries p) q k n e (omega arith)

  pub last_rises : {x0 x1 x2 x3 : ℤ} → p.x3 <ℤ b.high.x3 → x0 ≡ p.x0 → x1 ≡ p.x1 → x2 ≡ p.x2 → x3 ≡ p.x3 +ℤ pos 1 → ◌≡◌ {A = List ℤ} (x0 ∷ x1 ∷ x2 ∷ x3 ∷ []) (point_of (box_of b) (k + 1))
  last_rises l e0 e1 e2 e3 =
      follows (four e0 e1 e2 e3) (next_behind _ _ _ _ _ i (next_behind _ _ _ _ _ in1 (next_behind _ _ _ _ _ in2 (next_first _ [] _ [] in3 last_nothing l))))

  -- where the last entry cannot rise
  module _ (h3 : b.high.x3 ≤ℤ p.x3) where
    last3 : Last (side b.low.x3 b.high.x3 ∷ []) (p.x3 ∷ [])
    last3 = last_more _ [] _ [] in3 h3 last_nothing

    pub third_rises : {x0 x1 x2 x3 : ℤ} → p.x2 <ℤ b.high.x2 → x0 ≡ p.x0 → x1 ≡ p.x1 → x2 ≡ p.x2 +ℤ pos 1 → x3 ≡ b.low.x3 → ◌≡◌ {A = List ℤ} (x0 ∷ x1 ∷ x2 ∷ x3 ∷ []) (point_of (box_of b) (k + 1))
    third_rises l e0 e1 e2 e3 = follows (four e0 e1 e2 e3) (next_behind _ _ _ _ _ i (next_behind _ _ _ _ _ in1 (next_first _ _ _ _ in2 last3 l)))

    -- nor the third
    module _ (h2 : b.high.x2 ≤ℤ p.x2) where
      last2 : Last (side b.low.x2 b.high.x2 ∷ side b.low.x3 b.high.x3 ∷ []) (p.x2 ∷ p.x3 ∷ [])
      last2 = last_more _ _ _ _ in2 h2 last3

      pub second_rises : {x0 x1 x2 x3 : ℤ} → p.x1 <ℤ b.high.x1 → x0 ≡ p.x0 → x1 ≡ p.x1 +ℤ pos 1 → x2 ≡ b.low.x2 → x3 ≡ b.low.x3 → ◌≡◌ {A = List ℤ} (x0 ∷ x1 ∷ x2 ∷ x3 ∷ []) (point_of (box_of b) (k + 1))
      second_rises l e0 e1 e2 e3 = follows (four e0 e1 e2 e3) (next_behind _ _ _ _ _ i (next_first _ _ _ _ in1 last2 l))

      -- nor the second: as a point follows, the first can
      module _ (h1 : b.high.x1 ≤ℤ p.x1) where
        last1 : Last (side b.low.x1 b.high.x1 ∷ side b.low.x2 b.high.x2 ∷ side b.low.x3 b.high.x3 ∷ []) (p.x1 ∷ p.x2 ∷ p.x3 ∷ [])
        last1 = last_more _ _ _ _ in1 h1 last2

        first_below : p.x0 <ℤ b.high.x0
        first_below = ⊎_elim (λ l. absurd (last_none (box_of b) (entries p) k (last_more _ _ _ _ i l last1) e h)) (λ l. l) (≤ℤ_or-< b.high.x0 p.x0)

        pub first_rises : {x0 x1 x2 x3 : ℤ} → x0 ≡ p.x0 +ℤ pos 1 → x1 ≡ b.low.x1 → x2 ≡ b.low.x2 → x3 ≡ b.low.x3 → ◌≡◌ {A = List ℤ} (x0 ∷ x1 ∷ x2 ∷ x3 ∷ []) (point_of (box_of b) (k + 1))
        first_rises e0 e1 e2 e3 = follows (four e0 e1 e2 e3) (next_first _ _ _ _ i last1 first_below)
