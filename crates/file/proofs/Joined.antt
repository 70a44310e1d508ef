-- Parts one after the other: how they are put one by one, and the first of all.
use mathlib.Core.Path.{◌≡◌, refl, sym, ap, ap₂, ◌∙◌}
use mathlib.Core.List.{List, [], ◌∷◌, ◌++◌, append_assoc, append-nil}
use Prim.Native.Nat.{ℕ, zero, suc, ◌+◌, ◌*◌, ◌-◌, ◌<◌, ◌≤◌}
use native.Mathlib.Omega.{arith}
use native.Mathlib.Nat.{add-zero, add-suc, add_comm, mul-one, mul_comm}
use lib.ListN.{length, get_or, take, drop}
use lib.Seq.{drop-cons, take_at}
use Rattle.space.specs.declared.vector.Vector.{Vector}
use Rattle.space.specs.Vectors.{entries}
use Rattle.space.specs.Boxes.{box_of}
use Rattle.job.specs.declared.record.Job.{Job}
use Rattle.layout.specs.Layout.{joined, entry_bytes, vector_bytes, box_bytes, side_bytes}
use Rattle.buffer.specs.Put.{Fits, Put}
use Rattle.buffer.proofs.Putting.{and_then, first, left, put_as, fits_as, same_length}
use Rattle.layout.proofs.Injective.{joined_length}

module _ {A : Type 0} (f : A → List ℕ) where
  -- of nothing there are no parts
  joined_none : (k : ℕ) → joined f k [] ≡ []
  joined_none zero = refl
  joined_none (suc k) = refl

  -- the first n parts, then k more
  joined_split : (k n : ℕ) (xs : List A) → joined f (k + n) xs ≡ joined f n xs ++ joined f k (drop n xs)
  joined_split k zero xs = rw add-zero
  joined_split k (suc n) [] = rw add-suc (sym (joined_none k))
  joined_split k (suc n) (x ∷ xs) = rw add-suc (ap (λ (l : List ℕ). f x ++ l) (joined_split k n xs) ∙ sym (append_assoc (f x) _ _))

  -- one part more
  joined_more : (i : ℕ) (xs : List A) (d : A) → i < length xs → joined f (i + 1) xs ≡ joined f i xs ++ f (get_or xs i d)
  joined_more i xs d h =
      ap (λ (k : ℕ). joined f k xs) (add_comm i 1)
      ∙ joined_split 1 i xs
      ∙ rw (drop-cons xs i d h) (ap (λ (l : List ℕ). joined f i xs ++ l) (append-nil (f (get_or xs i d))))

  -- the first n parts of all, where each has w bytes
  joined_take : (w : ℕ) → ((x : A) → length (f x) ≡ w) → (n : ℕ) (xs : List A) → n ≤ length xs → take (n * w) (joined f (length xs) xs) ≡ joined f n xs
  joined_take w every n xs h =
      let e : length xs ≡ length xs - n + n = omega arith in
      ap (λ (k : ℕ). take (n * w) (joined f k xs)) e
      ∙ rw (joined_split (length xs - n) n xs) (take_at _ _ (n * w) (joined_length f w every n xs h))

-- there is room for count parts, and i of them are put
module _ {A : Type 0} (f : A → List ℕ) (xs : List A) (count : ℕ) (enough : count ≤ length xs) {s : List ℕ} {at : ℕ} (room : Fits s at (joined f count xs)) where
  room_of : (i : ℕ) → i ≤ count → Fits s at (joined f i xs)
  room_of i h =
      let e : count ≡ count - i + i = omega arith in
      first (joined f i xs) _ (fits_as (ap (λ (k : ℕ). joined f k xs) e ∙ joined_split f (count - i) i xs) room)

  module _ (i : ℕ) {r : ℕ} {t : List ℕ} (p : Put s at (joined f i xs) r t) where
    pub as_long : i ≤ count → length t ≡ length s
    as_long h = same_length p (room_of i h)

    -- there is room for the next one, and it is put
    module _ (d : A) (h : i < count) where
      pub next_room : Fits t r (f (get_or xs i d))
      next_room = left (joined f i xs) (f (get_or xs i d)) (fits_as (joined_more f i xs d (omega arith)) (room_of (i + 1) (omega arith))) p

      pub next_put : {q : ℕ} {u : List ℕ} → Put t r (f (get_or xs i d)) q u → Put s at (joined f (i + 1) xs) q u
      next_put o = put_as (joined_more f i xs d (omega arith)) (and_then p (room_of i (omega arith)) o)

-- the first n bytes of all four
pub vector_part : (n : ℕ) (v : Vector) → n ≤ 4 → {bytes : List ℕ} → bytes ≡ vector_bytes 1 4 v → vector_bytes 1 n v ≡ take n bytes
vector_part n v h e = sym (ap (take n) e ∙ rw (mul-one n) at (joined_take (entry_bytes 1) 1 (λ z. refl) n (entries v) h))

-- the sides of a box, from the bytes of its two corners, and the first n of all four
abbrev sides_of : List ℕ → List ℕ → List ℕ
sides_of l u = get_or l 0 0 ∷ get_or u 0 0 ∷ get_or l 1 0 ∷ get_or u 1 0 ∷ get_or l 2 0 ∷ get_or u 2 0 ∷ get_or l 3 0 ∷ get_or u 3 0 ∷ []

pub box_part : (j : Job) → j.n ≤ 4 → {l u : List ℕ} → l ≡ vector_bytes 1 4 j.bounds.low → u ≡ vector_bytes 1 4 j.bounds.high → box_bytes 1 j ≡ take (2 * j.n) (sides_of l u)
unfolding box_bytes
box_part j h d e =
    sym (ap₂ (λ (l u : List ℕ). take (2 * j.n) (sides_of l u)) d e ∙ rw (mul_comm 2) (joined_take (side_bytes 1) 2 (λ s. refl) j.n (box_of j.bounds) h))
