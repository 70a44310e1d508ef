-- 'A job held as a record has zero in every unused place': k zeros behind the n entries of each vector and k sides 0..0 behind the n sides of a box change nothing.
-- Vectors: product, sum, difference, multiples, sizes, gcd and order. Boxes: points, bounds, count, places, the step back, and the least and greatest product of a row. Each law is shown once, over every n and k.
use mathlib.Core.Path.{◌≡◌, refl, sym, ap, ap₂, subst, ◌∙◌}
use mathlib.Core.Logic.{inl, inr, ◌↔◌, ⊎_map}
use mathlib.Core.Bool.{Bool, ◌&&◌}
use mathlib.Core.List.{List, [], ◌∷◌, ◌++◌, map, append_cancel_right}
use Prim.Native.Nat.{ℕ, zero, suc, ◌+◌, ◌*◌, ◌<◌}
use native.Mathlib.Nat.{suc_inj, dvd-zero}
use native.Mathlib.Omega.{arith}
use lib.ListN.{length}
use lib.IntN.{ℤ, pos, negsuc, ◌+ℤ◌, ◌*ℤ◌, zero-*ℤ, *ℤ-zero}
use lib.Signed.{◌≤ℤ◌, le_z, ≤ℤ_refl}
use Rattle.space.specs.Numbers.{steps}
use Rattle.space.specs.Vectors.{dot_of, plus_of, minus_of, times_of, Sizes, Sized}
use Rattle.space.specs.Order.{Before, Forward}
use Rattle.space.specs.Divisors.{Divides, GcdOf, sizes_of}
use Rattle.space.specs.Boxes.{Side, Box, side, In, inside, Solid, across, count_of, place_of, point_of, back_of, corner_of, least_of, greatest_of, reach, Least, Greatest}
use Rattle.dimensions.proofs.Zeros.{zeros, flat}
use Rattle.space.proofs.Parts.{int}
use Rattle.space.proofs.VectorLaws.{minus_length, times_length}
use Rattle.space.proofs.OrderLaws.{before_forward, forward_before}
use Rattle.space.proofs.BoxLaws.{in_length, point_in, place_point, point_place}

-- ---- vectors
-- zeros have the product 0 with any vector
pub dot_zeros : (k : ℕ) (x : List ℤ) → dot_of (zeros k) x ≡ pos 0
unfolding dot_of
dot_zeros zero x = refl
dot_zeros (suc k) [] = refl
dot_zeros (suc k) (x ∷ xs) = rw (zero-*ℤ x, dot_zeros k xs)

-- the product is that of the n entries
pub dot_padded : (k : ℕ) (h x : List ℤ) → length h ≡ length x → dot_of (h ++ zeros k) (x ++ zeros k) ≡ dot_of h x
unfolding dot_of
dot_padded k [] [] e = dot_zeros k (zeros k)
dot_padded k [] (x ∷ xs) e = absurd (omega arith)
dot_padded k (h ∷ hs) [] e = absurd (omega arith)
dot_padded k (h ∷ hs) (x ∷ xs) e = ap (λ (z : ℤ). h *ℤ x +ℤ z) (dot_padded k hs xs (suc_inj e))

-- the sum has zeros behind
pub plus_padded : (k : ℕ) (x y : List ℤ) → length x ≡ length y → plus_of (x ++ zeros k) (y ++ zeros k) ≡ plus_of x y ++ zeros k
unfolding plus_of
plus_padded zero [] [] e = refl
plus_padded (suc k) [] [] e = ap (λ (l : List ℤ). pos 0 ∷ l) (plus_padded k [] [] refl)
plus_padded k [] (y ∷ ys) e = absurd (omega arith)
plus_padded k (x ∷ xs) [] e = absurd (omega arith)
plus_padded k (x ∷ xs) (y ∷ ys) e = ap₂ ◌∷◌ refl (plus_padded k xs ys (suc_inj e))

-- and so has the difference
pub minus_padded : (k : ℕ) (x y : List ℤ) → length x ≡ length y → minus_of (x ++ zeros k) (y ++ zeros k) ≡ minus_of x y ++ zeros k
unfolding minus_of
minus_padded zero [] [] e = refl
minus_padded (suc k) [] [] e = ap (λ (l : List ℤ). pos 0 ∷ l) (minus_padded k [] [] refl)
minus_padded k [] (y ∷ ys) e = absurd (omega arith)
minus_padded k (x ∷ xs) [] e = absurd (omega arith)
minus_padded k (x ∷ xs) (y ∷ ys) e = ap₂ ◌∷◌ refl (minus_padded k xs ys (suc_inj e))

-- and so has a multiple
pub times_padded : (k : ℕ) (z : ℤ) (x : List ℤ) → times_of z (x ++ zeros k) ≡ times_of z x ++ zeros k
unfolding times_of
times_padded zero z [] = refl
times_padded (suc k) z [] = ap₂ ◌∷◌ (*ℤ-zero z) (times_padded k z [])
times_padded k z (x ∷ xs) = ap₂ ◌∷◌ refl (times_padded k z xs)

-- two vectors are the same exactly if their n entries are
pub same_padded : (k : ℕ) (x y : List ℤ) → (x ++ zeros k ≡ y ++ zeros k) ↔ (x ≡ y)
same_padded k x y = (append_cancel_right x y (zeros k), ap (λ (l : List ℤ). l ++ zeros k))

-- and one is z times another exactly if its n entries are
pub multiple_padded : (k : ℕ) (z : ℤ) (y d : List ℤ) → (y ++ zeros k ≡ times_of z (d ++ zeros k)) ↔ (y ≡ times_of z d)
multiple_padded k z y d = rw (times_padded k z d) (same_padded k y (times_of z d))

-- every entry is at most b in size exactly if the n are
pub sized_padded : (k : ℕ) {b : ℕ} (x : List ℤ) → Sized b (x ++ zeros k) ↔ Sized b x
sized_padded k {b} x = (λ s. record { each = first x s.each }, λ s. record { each = both x s.each })
  where
    first : (x : List ℤ) → Sizes b (x ++ zeros k) → Sizes b x
    first [] s = tt
    first (x ∷ xs) s = (s.0, first xs s.1)

    none : (k : ℕ) → Sizes b (zeros k)
    none zero = tt
    none (suc k) = (record { size = omega arith }, none k)

    both : (x : List ℤ) → Sizes b x → Sizes b (x ++ zeros k)
    both [] s = none k
    both (x ∷ xs) s = (s.0, both xs s.1)

-- a number divides all entries exactly if it divides the n, as it divides 0; so the gcd is that of the n
divides_padded : (k m : ℕ) (x : List ℤ) → Divides m (sizes_of (x ++ zeros k)) ↔ Divides m (sizes_of x)
divides_padded zero m [] = (λ d. d, λ d. d)
divides_padded (suc k) m [] = (λ d. tt, λ d. (dvd-zero m, (divides_padded k m []).1 d))
divides_padded k m (x ∷ xs) = let r = divides_padded k m xs in (λ d. (d.0, r.0 d.1), λ d. (d.0, r.1 d.1))

pub gcd_padded : (k : ℕ) {g : ℕ} (x : List ℤ) → GcdOf (sizes_of (x ++ zeros k)) g ↔ GcdOf (sizes_of x) g
gcd_padded k {g} x = (
  λ c. record { divides = (divides_padded k g x).0 c.divides; greatest = λ m d. c.greatest m ((divides_padded k m x).1 d) },
  λ c. record { divides = (divides_padded k g x).1 c.divides; greatest = λ m d. c.greatest m ((divides_padded k m x).0 d) },
)

-- ---- order
-- the first entry that is not 0 is positive exactly if that of the n is
forward_zeros : (k : ℕ) → Forward (zeros k) → ⊥
unfolding Forward
forward_zeros zero h = h
forward_zeros (suc k) (inl h) = omega int
forward_zeros (suc k) (inr h) = forward_zeros k h.1

pub forward_padded : (k : ℕ) (x : List ℤ) → Forward (x ++ zeros k) ↔ Forward x
unfolding Forward
forward_padded k [] = (forward_zeros k, λ h. absurd h)
forward_padded k (x ∷ xs) =
    let r = forward_padded k xs in
    (⊎_map (λ h. h) (λ h. (h.0, r.0 h.1)), ⊎_map (λ h. h) (λ h. (h.0, r.1 h.1)))

-- p stands before q exactly if their n entries do: the difference decides
pub before_padded : (k : ℕ) (p q : List ℤ) → length p ≡ length q → Before (p ++ zeros k) (q ++ zeros k) ↔ Before p q
before_padded k p q e =
    let d = minus_padded k q p (sym e) in
    let r = forward_padded k (minus_of q p) in (
      λ b. forward_before p q (r.0 (subst Forward d (before_forward (p ++ zeros k) (q ++ zeros k) b))),
      λ b. forward_before (p ++ zeros k) (q ++ zeros k) (subst Forward (sym d) (r.1 (before_forward p q b))),
    )

-- ---- boxes
-- p is a point of the box exactly if it is a point of the n sides followed by zeros
in_zeros : (k : ℕ) → In (flat k) (zeros k)
unfolding In
in_zeros zero = tt
in_zeros (suc k) = (≤ℤ_refl (pos 0), ≤ℤ_refl (pos 0), in_zeros k)

in_flat : (k : ℕ) (p : List ℤ) → In (flat k) p → p ≡ zeros k
unfolding In
in_flat zero [] h = refl
in_flat zero (x ∷ xs) h = absurd h
in_flat (suc k) [] h = absurd h
in_flat (suc k) (x ∷ xs) h = ap₂ ◌∷◌ (nothing h.0 h.1) (in_flat k xs h.2)
  where
    nothing : pos 0 ≤ℤ x → x ≤ℤ pos 0 → x ≡ pos 0
    nothing a b = omega int

in_both : (k : ℕ) (B : Box) (p : List ℤ) → In B p → In (B ++ flat k) (p ++ zeros k)
unfolding In
in_both k [] [] h = in_zeros k
in_both k [] (x ∷ xs) h = absurd h
in_both k (s ∷ ss) [] h = absurd h
in_both k (s ∷ ss) (x ∷ xs) h = (h.0, h.1, in_both k ss xs h.2)

in_first : (k : ℕ) (B : Box) (p : List ℤ) → In (B ++ flat k) p → (q : List ℤ) × In B q × (p ≡ q ++ zeros k)
unfolding In
in_first k [] p h = ([], tt, in_flat k p h)
in_first k (s ∷ ss) [] h = absurd h
in_first k (s ∷ ss) (x ∷ xs) h = let r = in_first k ss xs h.2 in (x ∷ r.0, (h.0, h.1, r.1), ap₂ ◌∷◌ refl r.2)

pub points_padded : (k : ℕ) (B : Box) (p : List ℤ) → In (B ++ flat k) p ↔ ((q : List ℤ) × In B q × (p ≡ q ++ zeros k))
points_padded k B p = (in_first k B p, λ r. subst (In (B ++ flat k)) (sym r.2) (in_both k B r.0 r.1))

pub in_padded : (k : ℕ) (B : Box) (p : List ℤ) → In (B ++ flat k) (p ++ zeros k) ↔ In B p
in_padded k B p = (λ h. let r = in_first k B (p ++ zeros k) h in subst (In B) (sym ((same_padded k p r.0).0 r.2)) r.1, in_both k B p)

-- the low bounds have zeros behind, and the high
pub bounds_padded : (end : Side → ℤ) → end (side (pos 0) (pos 0)) ≡ pos 0 → (k : ℕ) (B : Box) → map end (B ++ flat k) ≡ map end B ++ zeros k
bounds_padded end e zero [] = refl
bounds_padded end e (suc k) [] = ap₂ ◌∷◌ e (bounds_padded end e k [])
bounds_padded end e k (s ∷ ss) = ap₂ ◌∷◌ refl (bounds_padded end e k ss)

-- l ≤ u for each exactly if for each of the n
pub solid_padded : (k : ℕ) (B : Box) → Solid (B ++ flat k) ↔ Solid B
unfolding Solid
solid_padded zero [] = (λ h. h, λ h. h)
solid_padded (suc k) [] = (λ h. tt, λ h. (≤ℤ_refl (pos 0), (solid_padded k []).1 h))
solid_padded k (s ∷ ss) = let r = solid_padded k ss in (λ h. (h.0, r.0 h.1), λ h. (h.0, r.1 h.1))

-- the box has as many points
pub count_padded : (k : ℕ) (B : Box) → count_of (B ++ flat k) ≡ count_of B
unfolding count_of
count_padded zero [] = refl
count_padded (suc k) [] = one (count_padded k [])
  where
    one : {n : ℕ} → n ≡ 1 → 1 * n ≡ 1
    one e = omega arith
count_padded k (s ∷ ss) = ap (λ (n : ℕ). across s * n) (count_padded k ss)

-- a point has the same place
pub place_padded : (k : ℕ) (B : Box) (p : List ℤ) → length p ≡ length B → place_of (B ++ flat k) (p ++ zeros k) ≡ place_of B p
unfolding count_of place_of
place_padded zero [] [] e = refl
place_padded (suc k) [] [] e = nothing (count_of (flat k)) (place_padded k [] [] refl)
  where
    nothing : {m : ℕ} (n : ℕ) → m ≡ 0 → 0 * n + m ≡ 0
    nothing n e = omega arith
place_padded k [] (x ∷ xs) e = absurd (omega arith)
place_padded k (s ∷ ss) [] e = absurd (omega arith)
place_padded k (s ∷ ss) (x ∷ xs) e = ap₂ (λ (n m : ℕ). steps s.low x * n + m) (count_padded k ss) (place_padded k ss xs (suc_inj e))

-- the point at a place has zeros behind
pub point_padded : (k : ℕ) (B : Box) (i : ℕ) → i < count_of B → point_of (B ++ flat k) i ≡ point_of B i ++ zeros k
point_padded k B i h =
    let p = point_of B i in
    let here = point_in B i h in
    ap (point_of (B ++ flat k)) (sym (place_padded k B p (in_length B p here) ∙ place_point B i h)) ∙ point_place (B ++ flat k) (p ++ zeros k) (in_both k B p here)

-- the point before, x - d, is in the box or not as it is of the n sides, and at the same place
inside_padded : (k : ℕ) (B : Box) (p : List ℤ) → length p ≡ length B → inside (B ++ flat k) (p ++ zeros k) ≡ inside B p
inside_padded zero [] [] e = refl
inside_padded (suc k) [] [] e = inside_padded k [] [] refl
inside_padded k [] (x ∷ xs) e = absurd (omega arith)
inside_padded k (s ∷ ss) [] e = absurd (omega arith)
inside_padded k (s ∷ ss) (x ∷ xs) e = ap (λ (b : Bool). le_z s.low x && (le_z x s.high && b)) (inside_padded k ss xs (suc_inj e))

pub back_padded : (k : ℕ) (B : Box) (d : List ℤ) (i : ℕ) → length d ≡ length B → i < count_of B → back_of (B ++ flat k) (d ++ zeros k) i ≡ back_of B d i
unfolding back_of
back_padded k B d i e h =
    let p = point_of B i in
    let l = in_length B p (point_in B i h) ∙ sym e in
    let m = minus_length p d l ∙ l ∙ e in
    rw (point_padded k B i h, minus_padded k p d l, inside_padded k B (minus_of p d) m, place_padded k B (minus_of p d) m)

-- ---- the least product of a row over a box, and the greatest
module _ (k : ℕ) (h : List ℤ) (B : Box) (e : length h ≡ length B) where
  product : (p : List ℤ) → In B p → dot_of (h ++ zeros k) (p ++ zeros k) ≡ dot_of h p
  product p i = dot_padded k h p (e ∙ sym (in_length B p i))

  -- a number is the product of a point exactly if it is that of a point of the n sides
  some_product : (Q : ℤ → Type 0) → ((p : List ℤ) × In (B ++ flat k) p × Q (dot_of (h ++ zeros k) p)) ↔ ((p : List ℤ) × In B p × Q (dot_of h p))
  some_product Q = (
    λ m. let r = in_first k B m.0 m.1 in (r.0, r.1, subst Q (ap (dot_of (h ++ zeros k)) r.2 ∙ product r.0 r.1) m.2),
    λ m. (m.0 ++ zeros k, in_both k B m.0 m.1, subst Q (sym (product m.0 m.1)) m.2),
  )

  -- and what holds of every such product holds of every one of the n entries
  every_product : (Q : ℤ → Type 0) → ((p : List ℤ) → In (B ++ flat k) p → Q (dot_of (h ++ zeros k) p)) ↔ ((p : List ℤ) → In B p → Q (dot_of h p))
  every_product Q = (
    λ f p i. subst Q (product p i) (f (p ++ zeros k) (in_both k B p i)),
    λ f p i. let r = in_first k B p i in subst Q (sym (ap (dot_of (h ++ zeros k)) r.2 ∙ product r.0 r.1)) (f r.0 r.1),
  )

  -- so the least product is that of the n entries, and the greatest
  pub is_least_padded : {r : ℤ} → Least (h ++ zeros k) (B ++ flat k) r ↔ Least h B r
  is_least_padded {r} =
      let m = some_product (λ (z : ℤ). z ≡ r) in
      let a = every_product (λ (z : ℤ). r ≤ℤ z) in
      (λ L. record { met = m.0 L.met; below = a.0 L.below }, λ L. record { met = m.1 L.met; below = a.1 L.below })

  pub is_greatest_padded : {r : ℤ} → Greatest (h ++ zeros k) (B ++ flat k) r ↔ Greatest h B r
  is_greatest_padded {r} =
      let m = some_product (λ (z : ℤ). z ≡ r) in
      let a = every_product (λ (z : ℤ). z ≤ℤ r) in
      (λ G. record { met = m.0 G.met; above = a.0 G.above }, λ G. record { met = m.1 G.met; above = a.1 G.above })

-- worked out: the corners have zeros behind
corner_length : (h : List ℤ) (B : Box) → length h ≡ length B → length (corner_of h B) ≡ length h
unfolding corner_of
corner_length [] B e = refl
corner_length (h ∷ hs) [] e = absurd (omega arith)
corner_length (h ∷ hs) (s ∷ ss) e = ap suc (corner_length hs ss (suc_inj e))

corner_padded : (k : ℕ) (h : List ℤ) (B : Box) → length h ≡ length B → corner_of (h ++ zeros k) (B ++ flat k) ≡ corner_of h B ++ zeros k
unfolding corner_of
corner_padded zero [] [] e = refl
corner_padded (suc k) [] [] e = ap₂ ◌∷◌ refl (corner_padded k [] [] refl)
corner_padded k [] (s ∷ ss) e = absurd (omega arith)
corner_padded k (h ∷ hs) [] e = absurd (omega arith)
corner_padded k (h ∷ hs) (s ∷ ss) e = ap₂ ◌∷◌ refl (corner_padded k hs ss (suc_inj e))

-- so what is worked out is that of the n entries
pub least_padded : (k : ℕ) (h : List ℤ) (B : Box) → length h ≡ length B → least_of (h ++ zeros k) (B ++ flat k) ≡ least_of h B
unfolding least_of
least_padded k h B e = rw (corner_padded k h B e) (dot_padded k h (corner_of h B) (sym (corner_length h B e)))

pub greatest_padded : (k : ℕ) (h : List ℤ) (B : Box) → length h ≡ length B → greatest_of (h ++ zeros k) (B ++ flat k) ≡ greatest_of h B
unfolding greatest_of
greatest_padded k h B e =
    let o = times_of (negsuc 0) h in
    let l = times_length (negsuc 0) h in
    rw (times_padded k (negsuc 0) h, corner_padded k o B (l ∙ e)) (dot_padded k h (corner_of o B) (sym (corner_length o B (l ∙ e) ∙ l)))

-- a row of zeros reaches from 0 to 0
pub reach_zeros : (m : ℕ) (B : Box) → reach (zeros m) B ≡ side (pos 0) (pos 0)
unfolding least_of greatest_of
reach_zeros m B = ap₂ side (dot_zeros m _) (dot_zeros m _)

-- a row has the reach of its n entries over the n sides
pub reach_padded : (k : ℕ) (h : List ℤ) (B : Box) → length h ≡ length B → reach (h ++ zeros k) (B ++ flat k) ≡ reach h B
reach_padded k h B e = ap₂ side (least_padded k h B e) (greatest_padded k h B e)
