-- Vectors on a line p + f v: its start, one step back, and the differences of two of its points.
use mathlib.Core.Path.{◌≡◌, refl, ap₂}
use mathlib.Core.List.{List, [], ◌∷◌}
use Prim.Native.Nat.{ℕ, suc}
use native.Mathlib.Nat.{suc_inj}
use native.Mathlib.Omega.{arith}
use lib.ListN.{length}
use lib.IntN.{ℤ, pos, neg_ℤ, ◌+ℤ◌, ◌-ℤ◌, ◌*ℤ◌}
use Rattle.space.specs.Vectors.{plus_of, minus_of, times_of}
use Rattle.space.proofs.Parts.{int, sum, difference, product, parts, ring⊖, int⊖}

-- p + 0 v is p
pub line_start : (p v : List ℤ) → length p ≡ length v → plus_of p (times_of (pos 0) v) ≡ p
unfolding plus_of times_of
line_start [] v e = refl
line_start (x ∷ p) [] e = absurd (omega arith)
line_start (x ∷ p) (y ∷ v) e = ap₂ ◌∷◌ (omega (int, product (pos 0) y, sum x (pos 0 *ℤ y))) (line_start p v (suc_inj e))

-- p + (f + 1) v - v is p + f v
pub line_back : (p v : List ℤ) (f : ℕ) → length p ≡ length v → minus_of (plus_of p (times_of (pos (suc f)) v)) v ≡ plus_of p (times_of (pos f) v)
unfolding plus_of minus_of times_of
line_back [] v f e = refl
line_back (x ∷ p) [] f e = absurd (omega arith)
line_back (x ∷ p) (y ∷ v) f e = ap₂ ◌∷◌ (step x y) (line_back p v f (suc_inj e))
  where
    step : (x y : ℤ) → x +ℤ pos (suc f) *ℤ y -ℤ y ≡ x +ℤ pos f *ℤ y
    step x y = rw (parts x, parts y) (simp ring⊖ (omega int⊖))

-- p - (p + f v) is -f v
pub line_behind : (p v : List ℤ) (f : ℤ) → length p ≡ length v → minus_of p (plus_of p (times_of f v)) ≡ times_of (neg_ℤ f) v
unfolding plus_of minus_of times_of
line_behind [] [] f e = refl
line_behind [] (y ∷ v) f e = absurd (omega arith)
line_behind (x ∷ p) [] f e = absurd (omega arith)
line_behind (x ∷ p) (y ∷ v) f e = ap₂ ◌∷◌ (step x y) (line_behind p v f (suc_inj e))
  where
    step : (x y : ℤ) → x -ℤ (x +ℤ f *ℤ y) ≡ neg_ℤ f *ℤ y
    step x y = rw (parts x, parts y, parts f) (simp ring⊖ (omega int⊖))

-- x - y + y is x
pub minus_back : (x y : List ℤ) → length x ≡ length y → plus_of (minus_of x y) y ≡ x
unfolding plus_of minus_of
minus_back [] y e = refl
minus_back (a ∷ x) [] e = absurd (omega arith)
minus_back (a ∷ x) (b ∷ y) e = ap₂ ◌∷◌ (omega (int, difference a b, sum (a -ℤ b) b)) (minus_back x y (suc_inj e))
