-- The digits of a place, and what they lead to from the low corner, for a box of four sides.
use mathlib.Core.Path.{◌≡◌, refl, ap}
use mathlib.Core.List.{[], ◌∷◌, map}
use Prim.Native.Nat.{ℕ, ◌*◌, ◌/◌, ◌%◌, ◌<◌, ◌≤◌}
use native.Mathlib.Omega.{arith}
use native.Mathlib.Nat.{mod-lt, div-lt_iff_lt-mul}
use lib.IntN.{pos, ◌+ℤ◌}
use Rattle.space.specs.Numbers.{difference, side_limit}
use Rattle.space.specs.Vectors.{entries, plus_of, Sized}
use Rattle.space.specs.Boxes.{side, box_of, across, count_of, point_of}
use Rattle.space.specs.declared.boxes.Bounds.{Bounds}
use Rattle.space.specs.declared.boxes.Counts.{Counts}
use Rattle.space.proofs.BoxLaws.{across_size, behind}
use Rattle.space.proofs.VectorLaws.{four, unfour}

-- ---- digits of k, for n0 to n3 places of each
module _ (k n1 n2 n3 : ℕ) where
  abbrev pub digit0 : ℕ
  digit0 = k / (n1 * (n2 * n3))

  abbrev pub digit1 : ℕ
  digit1 = k % (n1 * (n2 * n3)) / (n2 * n3)

  abbrev pub digit2 : ℕ
  digit2 = k % (n1 * (n2 * n3)) % (n2 * n3) / n3

  abbrev pub digit3 : ℕ
  digit3 = k % (n1 * (n2 * n3)) % (n2 * n3) % n3

pub record Digits (k n0 n1 n2 n3 : ℕ) : Type 0 where
  pub some1 : 0 < n1 * (n2 * n3)
  pub some2 : 0 < n2 * n3
  pub some3 : 0 < n3
  pub below0 : digit0 k n1 n2 n3 < n0
  pub below1 : digit1 k n1 n2 n3 < n1
  pub below2 : digit2 k n1 n2 n3 < n2
  pub below3 : digit3 k n1 n2 n3 < n3

pub digits : (k n0 n1 n2 n3 : ℕ) → k < n0 * (n1 * (n2 * n3)) → Digits k n0 n1 n2 n3
digits k n0 n1 n2 n3 h =
    let s1 = behind n0 (n1 * (n2 * n3)) k h in
    let s2 = behind n1 (n2 * n3) 0 s1 in
    let s3 = behind n2 n3 0 s2 in
    record {
      some1 = s1;
      some2 = s2;
      some3 = s3;
      below0 = (div-lt_iff_lt-mul s1).1 h;
      below1 = (div-lt_iff_lt-mul s2).1 (mod-lt k s1);
      below2 = (div-lt_iff_lt-mul s3).1 (mod-lt _ s2);
      below3 = mod-lt _ s3;
    }

-- ---- the code's lengths
abbrev AreLengths : Counts → Bounds → Type 0
AreLengths n b = (n.n0 ∷ n.n1 ∷ n.n2 ∷ n.n3 ∷ []) ≡ map across (box_of b)

module _ (n : Counts) (b : Bounds) (e : AreLengths n b) where
  pub lengths_small : Sized difference (entries b.low) → Sized difference (entries b.high) → (n.n0 ≤ side_limit) × (n.n1 ≤ side_limit) × (n.n2 ≤ side_limit) × (n.n3 ≤ side_limit)
  lengths_small l u =
      let are = unfour e in
      let p = l.each in
      let q = u.each in (
        rw are.0 (across_size (side b.low.x0 b.high.x0) p.0 q.0),
        rw are.1 (across_size (side b.low.x1 b.high.x1) p.1.0 q.1.0),
        rw are.2 (across_size (side b.low.x2 b.high.x2) p.1.1.0 q.1.1.0),
        rw are.3 (across_size (side b.low.x3 b.high.x3) p.1.1.1.0 q.1.1.1.0),
      )

  pub lengths_count : n.n0 * (n.n1 * (n.n2 * n.n3)) ≡ count_of (box_of b)
  unfolding count_of
  lengths_count = let are = unfour e in rw (← are.0, ← are.1, ← are.2, ← are.3) (omega arith)

  pub digits_point : (k : ℕ) → plus_of (entries b.low) (pos (digit0 k n.n1 n.n2 n.n3) ∷ pos (digit1 k n.n1 n.n2 n.n3) ∷ pos (digit2 k n.n1 n.n2 n.n3) ∷ pos (digit3 k n.n1 n.n2 n.n3) ∷ []) ≡ point_of (box_of b) k
  unfolding plus_of count_of point_of
  digits_point k =
      let are = unfour e in
      let one : n.n3 * 1 ≡ n.n3 = omega arith in
      rw (← are.1, ← are.2, ← are.3, one) (four refl refl refl (ap (λ (m : ℕ). b.low.x3 +ℤ pos m) (by_one _)))
    where
      by_one : (m : ℕ) → m ≡ m / 1
      by_one m = omega arith
