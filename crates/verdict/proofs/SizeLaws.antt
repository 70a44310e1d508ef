-- What the extent of an acceptable job comes to: the reach of a row, and the sum of the w.
use mathlib.Core.Path.{◌≡◌, refl, ap}
use mathlib.Core.List.{List}
use Prim.Native.Nat.{ℕ, zero, suc, ◌+◌, ◌*◌, ◌<◌, ◌≤◌}
use native.Mathlib.Nat.{le_trans, le_of_eq, div-le_self, mul-one}
use native.Mathlib.Numerals.{add-one}
use lib.ListN.{length}
use lib.IntN.{ℤ, pos, negsuc, nat_abs}
use Rattle.space.specs.Numbers.{up, Size, entry, coordinate}
use Rattle.space.specs.Vectors.{Sized, entries}
use Rattle.space.specs.Boxes.{across, count_of, least_of, greatest_of, reach}
use Rattle.space.proofs.Parts.{int}
use Rattle.space.proofs.Ints.{nat_abs_quot, quot_up}
use Rattle.space.proofs.VectorLaws.{dot_size, sized_up}
use Rattle.space.proofs.BoxLaws.{sides_sized, across_size}
use Rattle.job.specs.declared.record.Job.{Job}
use Rattle.job.specs.Limits.{Acceptable, row_limit, step_limit}
use Rattle.job.specs.Record.{along, box}
use Rattle.verdict.specs.Mapping.{H, hops, delay, delays}
use Rattle.verdict.specs.Rules.{Ahead}
use Rattle.job.proofs.Accepting.{stream_sound, time_sized, low_sized, high_sized, solid}
use Rattle.space.proofs.ExtremeLaws.{least_is, greatest_is, ends_small}
use Rattle.verdict.specs.Extents.{cells}
use native.Mathlib.Omega.{arith}

-- ---- the reach of a row of an acceptable job
-- the product of a row and a point, at most 4 × 1,023 × 2,047 in size
abbrev pub end_limit : ℕ
end_limit = 4 * (entry * coordinate)

-- so many numbers, at most, from the least such product to the greatest
abbrev pub reach_limit : ℕ
reach_limit = end_limit + (end_limit + 1)

module _ (j : Job) (a : Acceptable j) where
  -- its ends are small
  pub small_ends : (h : List ℤ) → length h ≡ 4 → Sized row_limit h → Size end_limit (least_of h (box j)) × Size end_limit (greatest_of h (box j))
  small_ends h e p = ends_small e (sized_up (omega arith) p) (sides_sized j.bounds (low_sized j a) (high_sized j a)) (least_is h (box j) e (solid j a)) (greatest_is h (box j) e (solid j a))

  -- and it is short
  pub across_small : (h : List ℤ) → length h ≡ 4 → Sized row_limit h → across (reach h (box j)) ≤ reach_limit
  across_small h e p = let s = small_ends h e p in across_size (reach h (box j)) s.0 s.1

-- ---- the cells of the rectangle are the product of its sides
pub cells_are : (j : Job) → cells j ≡ across (reach (entries j.row0) (box j)) * across (reach (entries j.row1) (box j))
unfolding count_of
cells_are j = ap (λ (n : ℕ). across (reach (entries j.row0) (box j)) * n) (mul-one (across (reach (entries j.row1) (box j))))

-- ---- the w
-- w, at most 4 × 127 × 15
abbrev pub delay_limit : ℕ
delay_limit = 4 * (row_limit * step_limit)

module _ (j : Job) (s : ℕ) where
  -- a stream that keeps precedence has a w that is not negative
  pub delay_up : Ahead j s → nat_abs (delay j s) ≡ up (delay j s)
  delay_up h = ap nat_abs (quot_up (H j (along j s)) (hops j s) (omega int))

  -- and w is small
  pub delay_size : Acceptable j → s < j.m → nat_abs (delay j s) ≤ delay_limit
  delay_size a h =
      le_trans (le_of_eq (nat_abs_quot (H j (along j s)) (pos (hops j s))))
      (le_trans (div-le_self _ _) (dot_size (time_sized j a) (stream_sound j a s h).small).size)

  -- one stream more
  pub delays_next : delays j (s + 1) ≡ delays j s + up (delay j s)
  delays_next = rw add-one refl

-- so the sum of the w is
pub delays_size : (j : Job) → Acceptable j → (s : ℕ) → s ≤ j.m → delays j s ≤ s * delay_limit
delays_size j a zero h = omega arith
delays_size j a (suc s) h = omega (arith, delays_size j a s (omega arith), delay_size j s a (omega arith), up_size (delay j s))
  where
    up_size : (z : ℤ) → up z ≤ nat_abs z
    up_size (pos n) = omega arith
    up_size (negsuc n) = omega arith
