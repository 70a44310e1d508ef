-- Laws of a box, shown once over its dimensions: places and points undo each other, the order of places is box order, and a box is convex.
use mathlib.Core.Path.{◌≡◌, refl, sym, ap, ap₂, subst, ◌∙◌}
use mathlib.Core.Logic.{◌⊎◌, inl, inr}
use mathlib.Core.Bool.{Bool, ◌&&◌}
use mathlib.Core.List.{List, [], ◌∷◌}
use Prim.Native.Nat.{ℕ, zero, suc, ◌+◌, ◌*◌, ◌/◌, ◌%◌, ◌<◌, ◌≤◌}
use native.Mathlib.Omega.{arith}
use native.Mathlib.Nat.{mod-lt, div-lt_iff_lt-mul, div-add-mod', mul-le-mul_right}
use lib.Arith.{digits_lt, digits_div, digits_mod}
use lib.ListN.{length}
use lib.IntN.{ℤ, pos, ◌+ℤ◌, ◌-ℤ◌, ◌*ℤ◌, *ℤ_comm, *ℤ-zero}
use lib.Signed.{◌≤ℤ◌, ◌<ℤ◌, ≤ℤ_refl}
use Rattle.space.specs.Numbers.{Size, Tells, steps}
use Rattle.space.specs.Vectors.{entries, plus_of, times_of, Sizes, Sized}
use Rattle.space.specs.Order.{Before}
use Rattle.space.specs.Boxes.{Side, Box, box_of, Within, In, Solid, across, count_of, place_of, point_of}
use Rattle.space.specs.declared.boxes.Bounds.{Bounds}
use Rattle.space.proofs.Parts.{int, sum, difference, magnitude}
use Rattle.space.proofs.Ints.{size_between, plus_size, nat_abs--, *ℤ_mono, *ℤ_anti, ≤ℤ_or-<, ≤ℤ_trans}
use Rattle.space.proofs.Telling.{tells_as, tells_and}
use Rattle.space.proofs.VectorLaws.{sized_up}
use Rattle.space.proofs.OrderLaws.{before_total}

-- ---- one side
pub steps_back : (l x : ℤ) → l ≤ℤ x → l +ℤ pos (steps l x) ≡ x
steps_back l x h = omega (int, difference x l, magnitude (x -ℤ l), sum l (pos (steps l x)))

steps_of : (l : ℤ) (n : ℕ) → steps l (l +ℤ pos n) ≡ n
steps_of l n = omega (int, sum l (pos n), difference (l +ℤ pos n) l, magnitude ((l +ℤ pos n) -ℤ l))

pub steps_below : (l x u : ℤ) → l ≤ℤ x → x ≤ℤ u → steps l x < steps l (u +ℤ pos 1)
steps_below l x u h k = omega (int, difference x l, magnitude (x -ℤ l), sum u (pos 1), difference (u +ℤ pos 1) l, magnitude ((u +ℤ pos 1) -ℤ l))

steps_high : (l u : ℤ) (n : ℕ) → n < steps l (u +ℤ pos 1) → (l +ℤ pos n) ≤ℤ u
steps_high l u n k = omega (int, sum l (pos n), sum u (pos 1), difference (u +ℤ pos 1) l, magnitude ((u +ℤ pos 1) -ℤ l))

steps_low : (l : ℤ) (n : ℕ) → l ≤ℤ (l +ℤ pos n)
steps_low l n = omega (int, sum l (pos n))

steps_lt : (l x y : ℤ) → l ≤ℤ x → x <ℤ y → steps l x < steps l y
steps_lt l x y h k = omega (int, difference x l, magnitude (x -ℤ l), difference y l, magnitude (y -ℤ l))

pub steps_size : {b d : ℕ} (l x : ℤ) → Size b l → Size d x → steps l x ≤ b + d
steps_size l x p q = omega (arith, nat_abs-- x l, magnitude (x -ℤ l))

pub across_size : {b : ℕ} (s : Side) → Size b s.low → Size b s.high → across s ≤ b + (b + 1)
across_size s p q = steps_size s.low (s.high +ℤ pos 1) p (plus_size q (record { size = omega arith }))

-- whether a point is in the box is told side by side
pub told_in : (a b : Bool) (s : Side) (ss : Box) (x : ℤ) (xs : List ℤ) → Tells ((s.low ≤ℤ x) × (x ≤ℤ s.high)) a → Tells (In ss xs) b → Tells (In (s ∷ ss) (x ∷ xs)) (a && b)
unfolding In
told_in a b s ss x xs p q = tells_as (λ h. (h.0.0, h.0.1, h.1)) (λ h. ((h.0, h.1), h.2)) (tells_and a b p q)

pub told_last : {a : Bool} (s : Side) (x : ℤ) → Tells ((s.low ≤ℤ x) × (x ≤ℤ s.high)) a → Tells (In (s ∷ []) (x ∷ [])) a
unfolding In
told_last s x p = tells_as (λ h. (h.0, h.1, tt)) (λ h. (h.0, h.1)) p

-- ---- places and points
pub in_length : (B : Box) (p : List ℤ) → In B p → length p ≡ length B
unfolding In
in_length [] [] h = refl
in_length [] (x ∷ xs) h = absurd h
in_length (s ∷ ss) [] h = absurd h
in_length (s ∷ ss) (x ∷ xs) h = ap suc (in_length ss xs h.2)

pub place_below : (B : Box) (p : List ℤ) → In B p → place_of B p < count_of B
unfolding In count_of place_of
place_below [] [] h = omega arith
place_below [] (x ∷ xs) h = absurd h
place_below (s ∷ ss) [] h = absurd h
place_below (s ∷ ss) (x ∷ xs) h = digits_lt (steps_below s.low x s.high h.0 h.1) (place_below ss xs h.2)

-- a place in a box of more than one side: there is a point behind each step
pub behind : (a n k : ℕ) → k < a * n → 0 < n
behind a zero k h = absurd (omega arith)
behind a (suc n) k h = omega arith

pub point_in : (B : Box) (k : ℕ) → k < count_of B → In B (point_of B k)
unfolding In count_of point_of
point_in [] k h = tt
point_in (s ∷ ss) k h =
    let n = behind (across s) (count_of ss) k h in
    (steps_low s.low _, steps_high s.low s.high _ ((div-lt_iff_lt-mul n).1 h), point_in ss _ (mod-lt k n))

-- so what stands at a place is in the box
pub stands_in : (B : Box) (k : ℕ) {p : List ℤ} → k < count_of B → p ≡ point_of B k → In B p
stands_in B k h e = subst (In B) (sym e) (point_in B k h)

pub place_point : (B : Box) (k : ℕ) → k < count_of B → place_of B (point_of B k) ≡ k
unfolding count_of place_of point_of
place_point [] k h = omega arith
place_point (s ∷ ss) k h =
    ap₂ (λ (a b : ℕ). a * count_of ss + b) (steps_of s.low (k / count_of ss)) (place_point ss (k % count_of ss) (mod-lt k (behind (across s) (count_of ss) k h)))
    ∙ div-add-mod' k (count_of ss)

pub point_place : (B : Box) (p : List ℤ) → In B p → point_of B (place_of B p) ≡ p
unfolding In count_of place_of point_of
point_place [] [] h = refl
point_place [] (x ∷ xs) h = absurd h
point_place (s ∷ ss) [] h = absurd h
point_place (s ∷ ss) (x ∷ xs) h =
    let n = place_below ss xs h.2 in
    ap₂ (λ (a b : ℕ). (s.low +ℤ pos a) ∷ point_of ss b) (digits_div (steps s.low x) n) (digits_mod (steps s.low x) n)
    ∙ ap₂ ◌∷◌ (steps_back s.low x h.0) (point_place ss xs h.2)

-- so no two points have one place
pub place_injective : (B : Box) (p q : List ℤ) → In B p → In B q → place_of B p ≡ place_of B q → p ≡ q
place_injective B p q h k e = sym (point_place B p h) ∙ ap (point_of B) e ∙ point_place B q k

-- ---- the order of places is box order
by_first : {a b m r : ℕ} (s : ℕ) → a < b → r < m → a * m + r < b * m + s
by_first {a} {b} {m} s h k = omega (arith, mul-le-mul_right m h)

by_rest : {a b r s : ℕ} (m : ℕ) → a ≡ b → r < s → a * m + r < b * m + s
by_rest m e h = rw e (omega arith)

pub before_place : (B : Box) (p q : List ℤ) → In B p → In B q → Before p q → place_of B p < place_of B q
unfolding In Before place_of
before_place [] [] q h k b = absurd b
before_place [] (x ∷ xs) q h k b = absurd h
before_place (s ∷ ss) [] q h k b = absurd h
before_place (s ∷ ss) (x ∷ xs) [] h k b = absurd k
before_place (s ∷ ss) (x ∷ xs) (y ∷ ys) h k (inl b) = by_first _ (steps_lt s.low x y h.0 b) (place_below ss xs h.2)
before_place (s ∷ ss) (x ∷ xs) (y ∷ ys) h k (inr b) = by_rest _ (ap (steps s.low) b.0) (before_place ss xs ys h.2 k.2 b.1)

pub place_before : (B : Box) (p q : List ℤ) → In B p → In B q → place_of B p < place_of B q → Before p q
place_before B p q h k b = by (before_total p q (in_length B p h ∙ sym (in_length B q k)))
  where
    equal : place_of B p ≡ place_of B q → ⊥
    equal e = omega arith

    after : place_of B q < place_of B p → ⊥
    after c = omega arith

    by : Before p q ⊎ ((p ≡ q) ⊎ Before q p) → Before p q
    by (inl c) = c
    by (inr (inl e)) = absurd (equal (ap (place_of B) e))
    by (inr (inr c)) = absurd (after (before_place B q p k h c))

-- ---- a box is convex: where p and p + g v are in it, so is p + f v for each f from 0 to g
between_low : (l a x f g : ℤ) → pos 0 ≤ℤ f → f ≤ℤ g → l ≤ℤ a → l ≤ℤ (a +ℤ g *ℤ x) → l ≤ℤ (a +ℤ f *ℤ x)
between_low l a x f g h k p q = by (≤ℤ_or-< (pos 0) x)
  where
    by : (pos 0 ≤ℤ x) ⊎ (x <ℤ pos 0) → l ≤ℤ (a +ℤ f *ℤ x)
    by (inl c) =
        let m = *ℤ_mono x c h in
        omega (int, sum a (f *ℤ x), *ℤ-zero x, *ℤ_comm f x)
    by (inr c) =
        let m = *ℤ_anti x (omega int) k in
        omega (int, sum a (f *ℤ x), sum a (g *ℤ x), *ℤ_comm f x, *ℤ_comm g x)

between_high : (a u x f g : ℤ) → pos 0 ≤ℤ f → f ≤ℤ g → a ≤ℤ u → (a +ℤ g *ℤ x) ≤ℤ u → (a +ℤ f *ℤ x) ≤ℤ u
between_high a u x f g h k p q = by (≤ℤ_or-< (pos 0) x)
  where
    by : (pos 0 ≤ℤ x) ⊎ (x <ℤ pos 0) → (a +ℤ f *ℤ x) ≤ℤ u
    by (inl c) =
        let m = *ℤ_mono x c k in
        omega (int, sum a (f *ℤ x), sum a (g *ℤ x), *ℤ_comm f x, *ℤ_comm g x)
    by (inr c) =
        let m = *ℤ_anti x (omega int) h in
        omega (int, sum a (f *ℤ x), *ℤ-zero x, *ℤ_comm f x)

pub convex : (B : Box) (p v : List ℤ) (f g : ℤ) → pos 0 ≤ℤ f → f ≤ℤ g → In B p → In B (plus_of p (times_of g v)) → In B (plus_of p (times_of f v))
unfolding In plus_of times_of
convex [] [] v f g h k i j = tt
convex [] (a ∷ p) v f g h k i j = absurd i
convex (s ∷ ss) [] v f g h k i j = absurd i
convex (s ∷ ss) (a ∷ p) [] f g h k i j = absurd j
convex (s ∷ ss) (a ∷ p) (x ∷ v) f g h k i j =
    (between_low s.low a x f g h k i.0 j.0, between_high a s.high x f g h k i.1 j.1, convex ss p v f g h k i.2 j.2)

-- ---- sizes: a point of the box is as small as its bounds
pub within_up : {b d : ℕ} {a : Bounds} → b ≤ d → Within b a → Within d a
within_up h p = (sized_up h p.0, sized_up h p.1)

abbrev pub SidesSized : ℕ → Box → Type 0
SidesSized b [] = Unit {0}
SidesSized b (s ∷ ss) = Size b s.low × Size b s.high × SidesSized b ss

pub sides_sized : {b : ℕ} (a : Bounds) → Sized b (entries a.low) → Sized b (entries a.high) → SidesSized b (box_of a)
sides_sized a p q =
    let l = p.each in
    let u = q.each in
    (l.0, u.0, (l.1.0, u.1.0, (l.1.1.0, u.1.1.0, (l.1.1.1.0, u.1.1.1.0, tt))))

pub in_sized : (b : ℕ) (B : Box) (p : List ℤ) → SidesSized b B → In B p → Sized b p
unfolding In
in_sized b B p w h = record { each = go B p w h }
  where
    go : (B : Box) (p : List ℤ) → SidesSized b B → In B p → Sizes b p
    go [] [] w h = tt
    go [] (x ∷ xs) w h = absurd h
    go (s ∷ ss) [] w h = absurd h
    go (s ∷ ss) (x ∷ xs) w h = (size_between w.0 w.1 h.0 h.1, go ss xs w.2 h.2)

pub inside_sized : {b : ℕ} (a : Bounds) {p : List ℤ} → Sized b (entries a.low) → Sized b (entries a.high) → In (box_of a) p → Sized b p
inside_sized {b} a {p} l u i = in_sized b (box_of a) p (sides_sized a l u) i

-- a box with l ≤ u for each has points, and one with a point has l ≤ u for each
pub solid_count : (B : Box) → Solid B → 0 < count_of B
unfolding Solid count_of
solid_count [] h = omega arith
solid_count (s ∷ ss) h = some (steps_below s.low s.low s.high (omega int) h.0) (solid_count ss h.1)
  where
    some : {a m n : ℕ} → m < a → 0 < n → 0 < a * n
    some {a} {m} {n} h k = omega (arith, mul-le-mul_right n h)

abbrev pub lows_of : Box → List ℤ
lows_of [] = []
lows_of (s ∷ ss) = s.low ∷ lows_of ss

pub solid_in : (B : Box) → Solid B → In B (lows_of B)
unfolding In Solid
solid_in [] h = tt
solid_in (s ∷ ss) h = (≤ℤ_refl s.low, h.0, solid_in ss h.1)

pub in_solid : (B : Box) (p : List ℤ) → In B p → Solid B
unfolding In Solid
in_solid [] p h = tt
in_solid (s ∷ ss) [] h = absurd h
in_solid (s ∷ ss) (x ∷ xs) h = (≤ℤ_trans h.0 h.1, in_solid ss xs h.2)
