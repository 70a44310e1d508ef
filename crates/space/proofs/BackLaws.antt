-- Laws of a step back: of the point x at place k, the place of x - d where it is in the box.
use mathlib.Core.Path.{◌≡◌, refl, sym, subst, ◌∙◌}
use mathlib.Core.Bool.{Bool, true, false, cond, ◌&&◌}
use mathlib.Core.List.{List, [], ◌∷◌}
use Rattle.std.specs.Prelude.{Option, None, Some}
use Prim.Native.Nat.{ℕ, ◌<◌}
use native.Mathlib.Omega.{arith}
use lib.ListN.{length}
use lib.IntN.{ℤ, ◌-ℤ◌}
use lib.Signed.{le_z}
use Rattle.space.specs.Numbers.{Tells}
use Rattle.space.specs.Vectors.{minus_of}
use Rattle.space.specs.Order.{Forward}
use Rattle.space.specs.Boxes.{Box, In, inside, count_of, place_of, point_of, back_of}
use Rattle.space.proofs.Parts.{int, difference}
use Rattle.space.proofs.Machine.{never, tells_le_z}
use Rattle.space.proofs.Telling.{told, tells_unique, tells_as, tells_and}
use Rattle.space.proofs.BoxLaws.{in_length, point_in, place_point, point_place, place_below, before_place}
use Rattle.space.proofs.OrderLaws.{forward_before}

-- the test of the definition tells whether a point is in the box
inside_tells : (B : Box) (p : List ℤ) → Tells (In B p) (inside B p)
unfolding In
inside_tells [] [] = record { holds = λ e. tt; fails = λ e. never e }
inside_tells [] (x ∷ xs) = record { holds = λ e. never (sym e); fails = λ e h. h }
inside_tells (s ∷ ss) [] = record { holds = λ e. never (sym e); fails = λ e h. h }
inside_tells (s ∷ ss) (x ∷ xs) =
    tells_as (λ h. (h.0, h.1.0, h.1.1)) (λ h. (h.0, (h.1, h.2)))
    (tells_and (le_z s.low x) (le_z x s.high && inside ss xs) (tells_le_z s.low x) (tells_and (le_z x s.high) (inside ss xs) (tells_le_z x s.high) (inside_tells ss xs)))

-- p less the difference of p and d is d
minus_minus : (p d : List ℤ) → length p ≡ length d → minus_of p (minus_of p d) ≡ d
unfolding minus_of
minus_minus [] [] e = refl
minus_minus [] (y ∷ ys) e = absurd (omega arith)
minus_minus (x ∷ xs) [] e = absurd (omega arith)
minus_minus (x ∷ xs) (y ∷ ys) e = joined (twice x y) (minus_minus xs ys (omega arith))
  where
    twice : (x y : ℤ) → x -ℤ (x -ℤ y) ≡ y
    twice x y = omega (int, difference x y, difference x (x -ℤ y))

    joined : {a b : ℤ} {xs ys : List ℤ} → a ≡ b → xs ≡ ys → ◌≡◌ {A = List ℤ} (a ∷ xs) (b ∷ ys)
    joined e f = cc

-- what a test of x - d answers
pub back_told : (B : Box) (d : List ℤ) (k : ℕ) (y : List ℤ) (b : Bool) → y ≡ minus_of (point_of B k) d → Tells (In B y) b → cond b (Some (place_of B y)) None ≡ back_of B d k
unfolding back_of
back_told B d k y b e t =
    let z = minus_of (point_of B k) d in
    let i = tells_unique b (inside B z) (subst (λ (y : List ℤ). Tells (In B y) b) e t) (inside_tells B z) in
    rw (i, e)

-- a place that is found is that of a point of the box
pub back_some : (B : Box) (d : List ℤ) (k q : ℕ) → back_of B d k ≡ Some q → In B (minus_of (point_of B k) d) × (place_of B (minus_of (point_of B k) d) ≡ q)
unfolding back_of
back_some B d k q e = by (inside B y) (inside_tells B y) e
  where
    y : List ℤ
    y = minus_of (point_of B k) d

    by : (b : Bool) → Tells (In B y) b → ◌≡◌ {A = Option ℕ} (cond b (Some (place_of B y)) None) (Some q) → In B y × (place_of B y ≡ q)
    by true t e = (t.holds refl, cc)
    by false t e = let z : ◌≡◌ {A = ℕ} 0 1 = cc in absurd (omega arith)

-- from a point by a vector to a point of the box
pub back_here : (B : Box) (p d : List ℤ) → In B p → In B (minus_of p d) → back_of B d (place_of B p) ≡ Some (place_of B (minus_of p d))
unfolding back_of
back_here B p d h g = rw (point_place B p h, told (inside B (minus_of p d)) (inside_tells B (minus_of p d)) g)

pub back_below : (B : Box) (d : List ℤ) (k q : ℕ) → back_of B d k ≡ Some q → q < count_of B
back_below B d k q e = let f = back_some B d k q e in omega (arith, place_below B (minus_of (point_of B k) d) f.0, f.1)

-- a vector that points forward leads back to a lower place
pub back_before : (B : Box) (d : List ℤ) (k q : ℕ) → Forward d → length d ≡ length B → k < count_of B → back_of B d k ≡ Some q → q < k
back_before B d k q f l lk e =
    let p = point_of B k in
    let y = minus_of p d in
    let found = back_some B d k q e in
    let here = point_in B k lk in
    let again = minus_minus p d (in_length B p here ∙ sym l) in
    let b = forward_before y p (subst Forward (sym again) f) in
    omega (arith, before_place B y p found.0 here b, place_point B k lk, found.1)
