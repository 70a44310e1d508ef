-- What entries at their places make: a vector, a box, a stream.
use mathlib.Core.Path.{◌≡◌, sym, ap, ap₂, ◌∙◌}
use mathlib.Core.List.{List, [], ◌∷◌, ◌++◌}
use Prim.Native.Nat.{ℕ, suc, ◌+◌, ◌*◌, ◌%◌, ◌≤◌, ◌<◌}
use native.Mathlib.Nat.{mul-one}
use native.Mathlib.Omega.{arith}
use lib.IntN.{ℤ, pos}
use lib.ListN.{length, take, get_or-eq_default}
use lib.Seq.{take_all}
use Rattle.space.specs.declared.vector.Vector.{Vector}
use Rattle.space.specs.declared.boxes.Bounds.{Bounds}
use Rattle.space.specs.Vectors.{entries}
use Rattle.space.specs.Boxes.{box_of}
use Rattle.space.proofs.Parts.{int}
use Rattle.job.specs.Limits.{Unused}
use Rattle.layout.specs.Layout.{complement, entry_bytes, InByte, InBytes, side_bytes}
use Rattle.layout.proofs.Entries.{below_256, byte_injective}
use Rattle.header.specs.Header.{at}
use Rattle.reader.specs.Pieces.{part, EntryAt, EntriesAt, VectorIn, BoxIn}
use Rattle.reader.proofs.Places.{part_bytes, joined_parts}

-- 0 is held in a byte
pub zero_held : InByte (pos 0)
zero_held = record { low = omega int; high = omega int }

module _ {l : List ℕ} {i : ℕ} {z : ℤ} (e : EntryAt l i z) where
  -- the entry's byte
  entry_byte : entry_bytes 1 z ≡ at l i ∷ []
  entry_byte = let b : complement 1 z % 256 ≡ at l i = omega (arith, below_256 z e.held, e.byte) in rw b

  -- past the end the entry is 0
  entry_past : length l ≤ i → z ≡ pos 0
  entry_past h = byte_injective z (pos 0) e.held zero_held (e.byte ∙ get_or-eq_default l 0 h)

-- entries are held in bytes
entries_held : {l : List ℕ} {p q t u : ℕ} {v : Vector} → EntriesAt l p q t u v → InBytes v
entries_held e = record { x0 = e.x0.held; x1 = e.x1.held; x2 = e.x2.held; x3 = e.x3.held }

-- those past the end are 0
entries_unused : {l : List ℕ} {p q t u : ℕ} {v : Vector} (n : ℕ) → EntriesAt l p q t u v → (n ≤ 0 → length l ≤ p) → (n ≤ 1 → length l ≤ q) → (n ≤ 2 → length l ≤ t) → (n ≤ 3 → length l ≤ u) → Unused n v
entries_unused n e p q t u = ((λ h. entry_past e.x0 (p h)), ((λ h. entry_past e.x1 (q h)), ((λ h. entry_past e.x2 (t h)), ((λ h. entry_past e.x3 (u h)), tt))))

module _ (l : List ℕ) (v : Vector) where
  -- the byte of one entry, at its place
  one : (i : ℕ) {z : ℤ} → EntryAt l i z → i < length l → entry_bytes 1 z ≡ part l i 1
  one i e h = entry_byte e ∙ sym (part_bytes l i 1 (omega arith))

  -- a vector of as many entries as there are bytes
  pub vector_in : length l ≤ 4 → EntriesAt l 0 1 2 3 v → VectorIn (length l) l v
  vector_in h e = record {
    bytes =
        joined_parts (entry_bytes 1) l 0 1 (length l) (entries v) (one 0 e.x0, (one 1 e.x1, (one 2 e.x2, (one 3 e.x3, h))))
        ∙ ap (λ (w : ℕ). take w l) (mul-one (length l)) ∙ take_all (length l) l (omega arith);
    unused = entries_unused (length l) e (λ k. k) (λ k. k) (λ k. k) (λ k. k);
    held = entries_held e;
  }

module _ (l : List ℕ) (b : Bounds) (n : ℕ) (most : n ≤ 4) (size : length l ≡ 2 * n) where
  -- the bytes of one side, at their place
  side : (i : ℕ) {z w : ℤ} → EntryAt l (i * 2) z → EntryAt l (suc (i * 2)) w → i < n → entry_bytes 1 z ++ entry_bytes 1 w ≡ part l (0 + i * 2) 2
  side i d e h =
      let p : 0 + i * 2 ≡ i * 2 = omega arith in
      ap₂ ◌++◌ (entry_byte d) (entry_byte e) ∙ rw p (sym (part_bytes l (i * 2) 2 (omega arith)))

  -- a box: l at the even places, u at the odd ones
  pub box_in : EntriesAt l 0 2 4 6 b.low → EntriesAt l 1 3 5 7 b.high → BoxIn n l b
  box_in d e = record {
    bytes =
        joined_parts (side_bytes 1) l 0 2 n (box_of b)
        (side 0 d.x0 e.x0, (side 1 d.x1 e.x1, (side 2 d.x2 e.x2, (side 3 d.x3 e.x3, most))))
        ∙ take_all (n * 2) l (omega arith);
    unused = (
      entries_unused n d (λ h. omega arith) (λ h. omega arith) (λ h. omega arith) (λ h. omega arith),
      entries_unused n e (λ h. omega arith) (λ h. omega arith) (λ h. omega arith) (λ h. omega arith),
    );
    held = (entries_held d, entries_held e);
  }
