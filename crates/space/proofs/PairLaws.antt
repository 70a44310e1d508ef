-- Pairs of points of a box, by their difference y: the differences are themselves a box, and the least p with p and p + y in the box is known entry by entry.
use mathlib.Core.Path.{◌≡◌, refl, ap, ap₂, ◌∙◌}
use Prim.Native.Nat.{ℕ, suc, ◌+◌}
use mathlib.Core.Logic.{◌⊎◌, inl, inr}
use mathlib.Core.List.{List, [], ◌∷◌}
use native.Mathlib.Nat.{suc_inj}
use native.Mathlib.Omega.{arith}
use lib.ListN.{length}
use lib.IntN.{ℤ, ◌+ℤ◌, ◌-ℤ◌}
use lib.Signed.{◌≤ℤ◌, ◌<ℤ◌}
use Rattle.std.specs.Int.{int_max}
use Rattle.std.proofs.lemmas.Int.{ints, clamps}
use Rattle.space.specs.declared.vector.Vector.{Vector}
use Rattle.space.specs.Vectors.{entries, plus_of, minus_of, Sized}
use Rattle.space.specs.Order.{Before, AtMost}
use Rattle.space.specs.Boxes.{Box, side, box_of, In, Apart}
use Rattle.space.specs.declared.boxes.Bounds.{Bounds}
use Rattle.space.proofs.Parts.{int, sum, difference}
use Rattle.space.proofs.Ints.{≤ℤ_or-<, ≤ℤ_antisymm, minus_size}
use Rattle.space.proofs.VectorLaws.{four, unfour}
use Rattle.space.proofs.OrderLaws.{at_most_both}
use Rattle.space.proofs.BoxLaws.{in_length, SidesSized, sides_sized, in_sized}

-- ---- the box of the differences, and the least point that a difference leads from
unfoldable pub spread : Box → Box
spread [] = []
spread (s ∷ ss) = side (s.low -ℤ s.high) (s.high -ℤ s.low) ∷ spread ss

unfoldable pub start_of : Box → List ℤ → List ℤ
start_of [] y = []
start_of (s ∷ ss) [] = []
start_of (s ∷ ss) (y ∷ ys) = int_max s.low (s.low -ℤ y) ∷ start_of ss ys

-- the code's bounds with low - high and high - low
pub spread_box : (b r : Bounds) → entries r.low ≡ minus_of (entries b.low) (entries b.high) → entries r.high ≡ minus_of (entries b.high) (entries b.low) → box_of r ≡ spread (box_of b)
unfolding minus_of spread
spread_box b r l u =
    let p = unfour l in
    let q = unfour u in
    four (ap₂ side p.0 q.0) (ap₂ side p.1 q.1) (ap₂ side p.2 q.2) (ap₂ side p.3 q.3)

-- one entry: where a step between the two ends lies, and where its start lies
step_in : (l u x y : ℤ) → l ≤ℤ x → x ≤ℤ u → l ≤ℤ (x +ℤ y) → (x +ℤ y) ≤ℤ u → ((l -ℤ u) ≤ℤ y) × (y ≤ℤ (u -ℤ l))
step_in l u x y a b c d = (omega (int, sum x y, difference l u), omega (int, sum x y, difference u l))

start_here : (l u y : ℤ) → (l -ℤ u) ≤ℤ y → y ≤ℤ (u -ℤ l) → (l ≤ℤ int_max l (l -ℤ y)) × (int_max l (l -ℤ y) ≤ℤ u)
start_here l u y a b = (omega (arith, ints, clamps), omega (arith, ints, clamps))

start_there : (l u y : ℤ) → (l -ℤ u) ≤ℤ y → y ≤ℤ (u -ℤ l) → (l ≤ℤ (int_max l (l -ℤ y) +ℤ y)) × ((int_max l (l -ℤ y) +ℤ y) ≤ℤ u)
start_there l u y a b = (omega (arith, ints, clamps), omega (arith, ints, clamps))

start_first : (l x y : ℤ) → l ≤ℤ x → l ≤ℤ (x +ℤ y) → int_max l (l -ℤ y) ≤ℤ x
start_first l x y a b = omega (arith, ints, clamps)

-- ---- the start of a difference is a point of the box, and leads to one
pub start_in : (B : Box) (y : List ℤ) → In (spread B) y → In B (start_of B y) × In B (plus_of (start_of B y) y)
unfolding In plus_of spread start_of
start_in [] [] i = (tt, tt)
start_in [] (y ∷ ys) i = absurd i
start_in (s ∷ ss) [] i = absurd i
start_in (s ∷ ss) (y ∷ ys) i =
    let h = start_here s.low s.high y i.0 i.1 in
    let t = start_there s.low s.high y i.0 i.1 in
    let r = start_in ss ys i.2 in
    ((h.0, h.1, r.0), (t.0, t.1, r.1))

spread_length : (B : Box) → length (spread B) ≡ length B
unfolding spread
spread_length [] = refl
spread_length (s ∷ ss) = ap suc (spread_length ss)

-- what the box of the differences has leads from a point of the box to a point of the box, and all that does is in it
pub in_apart : (B : Box) (y : List ℤ) → In (spread B) y → Apart B y
in_apart B y i = let s = start_in B y i in record { long = in_length (spread B) y i ∙ spread_length B; from = start_of B y; here = s.0; there = s.1 }

pub apart_in : (B : Box) (y : List ℤ) → Apart B y → In (spread B) y
unfolding In plus_of spread
apart_in B y a = go B y a.from a.long a.here a.there
  where
    go : (B : Box) (y p : List ℤ) → length y ≡ length B → In B p → In B (plus_of p y) → In (spread B) y
    go [] [] p e h t = tt
    go [] (y ∷ ys) p e h t = absurd (omega arith)
    go (s ∷ ss) [] p e h t = absurd (omega arith)
    go (s ∷ ss) (y ∷ ys) [] e h t = absurd h
    go (s ∷ ss) (y ∷ ys) (x ∷ xs) e h t =
        let i = step_in s.low s.high x y h.0 h.1 t.0 t.1 in
        (i.0, i.1, go ss ys xs (suc_inj e) h.2 t.2)

-- ---- and no such point has a smaller entry, so none stands before it
abbrev Under : List ℤ → List ℤ → Type 0
Under [] [] = Unit {0}
Under [] (y ∷ ys) = ⊥
Under (x ∷ xs) [] = ⊥
Under (x ∷ xs) (y ∷ ys) = (x ≤ℤ y) × Under xs ys

start_below : (B : Box) (y p : List ℤ) → In B p → In B (plus_of p y) → Under (start_of B y) p
unfolding In plus_of start_of
start_below [] y [] h t = tt
start_below [] y (x ∷ xs) h t = absurd h
start_below (s ∷ ss) y [] h t = absurd h
start_below (s ∷ ss) [] (x ∷ xs) h t = absurd t
start_below (s ∷ ss) (y ∷ ys) (x ∷ xs) h t = (start_first s.low x y h.0 t.0, start_below ss ys xs h.2 t.2)

under_at_most : (p q : List ℤ) → Under p q → AtMost p q
unfolding Before
under_at_most [] [] u = inr refl
under_at_most [] (y ∷ ys) u = absurd u
under_at_most (x ∷ xs) [] u = absurd u
under_at_most (x ∷ xs) (y ∷ ys) u = by (≤ℤ_or-< y x) (under_at_most xs ys u.1)
  where
    by : (y ≤ℤ x) ⊎ (x <ℤ y) → AtMost xs ys → AtMost (x ∷ xs) (y ∷ ys)
    by (inr k) r = inl (inl k)
    by (inl k) (inl r) = inl (inr (≤ℤ_antisymm u.0 k, r))
    by (inl k) (inr r) = inr (ap₂ ◌∷◌ (≤ℤ_antisymm u.0 k) r)

pub start_least : (B : Box) (y p : List ℤ) → In B p → In B (plus_of p y) → AtMost (start_of B y) p
start_least B y p h t = under_at_most (start_of B y) p (start_below B y p h t)

-- so the bounds and a difference lead to the least point
module _ {a b c d : ℤ} (B : Bounds) (y s : Vector) (e : entries s ≡ minus_of (entries B.low) (entries y)) (p : a ≡ int_max B.low.x0 s.x0) (q : b ≡ int_max B.low.x1 s.x1) (r : c ≡ int_max B.low.x2 s.x2) (t : d ≡ int_max B.low.x3 s.x3) where
  start_box : ◌≡◌ {A = List ℤ} (a ∷ b ∷ c ∷ d ∷ []) (start_of (box_of B) (entries y))
  unfolding minus_of start_of
  start_box =
      let m = unfour e in
      four (p ∙ ap (int_max B.low.x0) m.0) (q ∙ ap (int_max B.low.x1) m.1) (r ∙ ap (int_max B.low.x2) m.2) (t ∙ ap (int_max B.low.x3) m.3)

  pub start_told : Apart (box_of B) (entries y) → In (box_of B) (a ∷ b ∷ c ∷ d ∷ []) × In (box_of B) (plus_of (a ∷ b ∷ c ∷ d ∷ []) (entries y))
  start_told h = rw start_box (start_in (box_of B) (entries y) (apart_in (box_of B) (entries y) h))

  pub start_told_least : (z : List ℤ) → In (box_of B) z → In (box_of B) (plus_of z (entries y)) → AtMost (a ∷ b ∷ c ∷ d ∷ []) z
  start_told_least z i j = rw start_box (start_least (box_of B) (entries y) z i j)

-- a difference is twice as small as the bounds
pub apart_sized : {b : ℕ} (a : Bounds) (y : List ℤ) → Sized b (entries a.low) → Sized b (entries a.high) → Apart (box_of a) y → Sized (b + b) y
unfolding spread
apart_sized {b} a y p q h = in_sized (b + b) (spread (box_of a)) y (twice (box_of a) (sides_sized a p q)) (apart_in (box_of a) y h)
  where
    twice : (B : Box) → SidesSized b B → SidesSized (b + b) (spread B)
    twice [] w = tt
    twice (s ∷ ss) w = (minus_size w.0 w.1, minus_size w.1 w.0, twice ss w.2)

-- there is one least point that y leads from
pub start_unique : (B : Box) (y p q : List ℤ) → In B p → In B (plus_of p y) → ((r : List ℤ) → In B r → In B (plus_of r y) → AtMost p r) → In B q → In B (plus_of q y) → ((r : List ℤ) → In B r → In B (plus_of r y) → AtMost q r) → p ≡ q
start_unique B y p q ip jp lp iq jq lq = at_most_both p q (lp q iq jq) (lq p ip jp)
