-- Laws of coordinates: how those of a point are put one by one.
use mathlib.Core.Path.{◌≡◌, refl, sym, ap, ◌∙◌}
use mathlib.Core.List.{List, [], ◌∷◌}
use Prim.Native.Nat.{ℕ, zero, suc, ◌+◌, ◌^◌, ◌≤◌, ◌<◌, min}
use native.Mathlib.Decide.{dec_le}
use native.Mathlib.Omega.{arith}
use lib.IntN.{ℤ, pos}
use lib.ListN.{length, take, drop}
use lib.Signed.{mag}
use Rattle.std.proofs.Common.{get_or, drop-cons, add-one}
use Rattle.std.proofs.lemmas.List.{drop_all, take_all}
use Rattle.space.specs.Vectors.{entries}
use Rattle.space.specs.declared.vector.Vector.{Vector}
use Rattle.space.proofs.Machine.{held, back, in_range}
use Rattle.buffer.specs.Put.{Fits, Put}
use Rattle.line.specs.Fields.{fields_bytes, coordinates}
use Rattle.print.specs.declared.words.Word.{Word}
use Rattle.buffer.proofs.Putting.{none, put_as}
use Rattle.line.proofs.Rows.{field_bytes, room_head, room_tail, put_tail}

-- s has come to t and the place r on the way to bs: the coordinates xs are left, the first of them after the word w; they fit, and with them bs are put
pub record Left (s : List ℕ) (at : ℕ) (bs : List ℕ) (t : List ℕ) (r : ℕ) (w : Word) (xs : List ℤ) : Type 0 where
  pub room : Fits t r (fields_bytes (coordinates w xs))
  pub whole : (q : ℕ) (u : List ℕ) → Put t r (fields_bytes (coordinates w xs)) q u → Put s at bs q u

-- at the start all are left
pub all_left : {s : List ℕ} {at : ℕ} (w : Word) (xs : List ℤ) → Fits s at (fields_bytes (coordinates w xs)) → Left s at (fields_bytes (coordinates w xs)) s at w xs
all_left w xs room = record { room = room; whole = λ q u p. p }

-- number k of them, and those after it
module _ {s : List ℕ} {at : ℕ} {bs t : List ℕ} {r : ℕ} {w : Word} (xs : List ℤ) (k : ℕ) (inside : k < length xs) (l : Left s at bs t r w (drop k xs)) where
  abbrev next : ℤ
  next = get_or xs k (pos 0)

  split : Left s at bs t r w (next ∷ drop (k + 1) xs)
  split = rw (add-one k, ← drop-cons xs k (pos 0) inside) l

  pub next_room : Fits t r (field_bytes w next)
  unfolding coordinates
  next_room = room_head w next (coordinates Word.Blank (drop (k + 1) xs)) split.room

  pub next_left : {q : ℕ} {u : List ℕ} → Put t r (field_bytes w next) q u → Left s at bs u q Word.Blank (drop (k + 1) xs)
  unfolding coordinates
  next_left p = record {
    room = room_tail w next (coordinates Word.Blank (drop (k + 1) xs)) split.room p;
    whole = λ q u o. split.whole q u (put_tail w next (coordinates Word.Blank (drop (k + 1) xs)) split.room p o);
  }

-- none is left
pub none_left : {s : List ℕ} {at : ℕ} {bs t : List ℕ} {r : ℕ} {w : Word} (xs : List ℤ) (k : ℕ) → Left s at bs t r w (drop k xs) → length xs ≤ k → Put s at bs r t
unfolding coordinates fields_bytes
none_left {t = t} {r = r} {w = w} xs k l h = l.whole r t (put_as (ap (λ (ys : List ℤ). fields_bytes (coordinates w ys)) (drop_all k xs h)) (none t r))

-- ---- a point as its coordinates are read from their bits
abbrev pub held_of : Vector → Vector
held_of p = record { x0 = held p.x0; x1 = held p.x1; x2 = held p.x2; x3 = held p.x3 }

-- of four, the first n are as many as there are
as_many : (n : ℕ) (a b c d : ℤ) → take (min n 4) (a ∷ b ∷ c ∷ d ∷ []) ≡ take n (a ∷ b ∷ c ∷ d ∷ [])
as_many n a b c d = by (dec_le 4 n)
  where
    by : Dec (4 ≤ n) → take (min n 4) (a ∷ b ∷ c ∷ d ∷ []) ≡ take n (a ∷ b ∷ c ∷ d ∷ [])
    by (yes h) = let e : min n 4 ≡ 4 = omega arith in ap (λ (m : ℕ). take m (a ∷ b ∷ c ∷ d ∷ [])) e ∙ sym (take_all n (a ∷ b ∷ c ∷ d ∷ []) h)
    by (no h) = let e : min n 4 ≡ n = omega arith in ap (λ (m : ℕ). take m (a ∷ b ∷ c ∷ d ∷ [])) e

abbrev helds : List ℤ → List ℤ
helds [] = []
helds (x ∷ xs) = held x ∷ helds xs

read_held : (m k : ℕ) (xs : List ℤ) → get_or (take m (helds xs)) k (pos 0) ≡ held (get_or (take m xs) k (pos 0))
read_held zero k xs = refl
read_held (suc m) k [] = refl
read_held (suc m) zero (x ∷ xs) = refl
read_held (suc m) (suc k) (x ∷ xs) = read_held m k xs

module _ (p : Vector) (fits : (mag p.x0 < 2 ^ 63) × (mag p.x1 < 2 ^ 63) × (mag p.x2 < 2 ^ 63) × (mag p.x3 < 2 ^ 63)) where
  same : held_of p ≡ p
  same = λ i. record { x0 = back {z = p.x0} (in_range fits.0) i; x1 = back {z = p.x1} (in_range fits.1) i; x2 = back {z = p.x2} (in_range fits.2) i; x3 = back {z = p.x3} (in_range fits.3) i }

  pub point_as : (w : Word) (m n : ℕ) → m ≡ min n 4 → fields_bytes (coordinates w (take m (entries (held_of p)))) ≡ fields_bytes (coordinates w (take n (entries p)))
  point_as w m n e =
      let bytes = λ (xs : List ℤ). fields_bytes (coordinates w xs) in
      ap (λ (m : ℕ). bytes (take m (entries (held_of p)))) e ∙ ap bytes (as_many n (held p.x0) (held p.x1) (held p.x2) (held p.x3)) ∙ ap (λ (v : Vector). bytes (take n (entries v))) same

  -- what is read once more is the same
  pub held_once : (m k : ℕ) → held (get_or (take m (entries (held_of p))) k (pos 0)) ≡ get_or (take m (entries (held_of p))) k (pos 0)
  held_once m k = ap (λ (v : Vector). held (get_or (take m (entries v)) k (pos 0))) same ∙ sym (read_held m k (entries p))
