-- Parts of a list by their places, and parts of one width joined.
use mathlib.Core.Path.{◌≡◌, refl, ap, ◌∙◌}
use mathlib.Core.List.{List, [], ◌∷◌, ◌++◌}
use Prim.Native.Nat.{ℕ, zero, suc, ◌+◌, ◌*◌, ◌/◌, ◌%◌, ◌≤◌, ◌<◌}
use native.Mathlib.Nat.{suc-mul, zero-mul}
use native.Mathlib.Omega.{arith}
use lib.ListN.{length, take, drop}
use lib.Seq.{drop-cons, drop-drop, take-add}
use Rattle.layout.specs.Layout.{joined}
use Rattle.header.specs.Header.{at}
use Rattle.reader.specs.Pieces.{part}

-- the w bytes from place i on, one by one
abbrev pub bytes_at : List ℕ → ℕ → ℕ → List ℕ
bytes_at s i zero = []
bytes_at s i (suc w) = at s i ∷ bytes_at s (suc i) w

-- a part is its bytes
pub part_bytes : (s : List ℕ) (i w : ℕ) → i + w ≤ length s → part s i w ≡ bytes_at s i w
part_bytes s i zero h = refl
part_bytes s i (suc w) h = ap (take (suc w)) (drop-cons s i 0 (omega arith)) ∙ ap (λ (l : List ℕ). at s i ∷ l) (part_bytes s (suc i) w (omega arith))

-- two parts, one after the other
part_next : (s : List ℕ) (from w v : ℕ) → part s from w ++ part s (from + w) v ≡ part s from (w + v)
part_next s from w v = rw (take-add w v (drop from s), drop-drop w from s)

module _ {A : Type 0} (f : A → List ℕ) (s : List ℕ) (from w : ℕ) where
  -- each of the first m, counted from i, has its bytes at its place
  abbrev pub Laid : ℕ → ℕ → List A → Type 0
  Laid m i [] = m ≤ i
  Laid m i (x ∷ xs) = (i < m → f x ≡ part s (from + i * w) w) × Laid m (suc i) xs

  -- the place of the next one
  next_place : (i : ℕ) → from + suc i * w ≡ from + i * w + w
  next_place i = omega (arith, suc-mul i w)

  -- one more, and those after it
  join : (d i : ℕ) (x l : List ℕ) → x ≡ part s (from + i * w) w → l ≡ part s (from + suc i * w) (d * w) → x ++ l ≡ part s (from + i * w) (suc d * w)
  join d i x l p q =
      let e : suc d * w ≡ w + d * w = omega (arith, suc-mul d w) in
      rw (p, q, next_place i, e) (part_next s (from + i * w) w (d * w))

  -- then the d that are left, joined, are the bytes from place i on
  joined_from : (d i m : ℕ) (xs : List A) → m ≡ i + d → Laid m i xs → joined f d xs ≡ part s (from + i * w) (d * w)
  joined_from zero i m xs e h = rw (zero-mul w)
  joined_from (suc d) i m [] e h = absurd (omega arith)
  joined_from (suc d) i m (x ∷ xs) e h = join d i (f x) (joined f d xs) (h.0 (omega arith)) (joined_from d (suc i) m xs (omega arith) h.1)

  -- and all m the bytes from the first place on
  pub joined_parts : (m : ℕ) (xs : List A) → Laid m 0 xs → joined f m xs ≡ part s from (m * w)
  joined_parts m xs h = let e : from + 0 * w ≡ from = omega (arith, zero-mul w) in joined_from m 0 m xs (omega arith) h ∙ rw e

-- the bytes of a little-endian pair
pub pair_bytes : (a b x : ℕ) → a < 256 → b < 256 → a + 256 * b ≡ x → (a ≡ x % 256) × (b ≡ x / 256 % 256)
pair_bytes a b x p q e = omega arith

-- and back
pub pair_value : (x : ℕ) → x < 65536 → x % 256 + 256 * (x / 256 % 256) ≡ x
pair_value x h = omega arith
