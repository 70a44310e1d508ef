-- A header that passes, with the pieces that its counts ask for, is the file of one record.
use mathlib.Core.Path.{◌≡◌, refl, sym, ap, ap₂, ◌∙◌}
use mathlib.Core.List.{List, [], ◌∷◌, ◌++◌}
use Prim.Native.Nat.{ℕ, ◌+◌, ◌*◌, ◌≤◌, ◌<◌}
use native.Mathlib.Omega.{arith}
use lib.ListN.{length, take}
use lib.Seq.{take-add, take_all}
use Rattle.space.specs.declared.vector.Vector.{Vector}
use Rattle.space.specs.declared.boxes.Bounds.{Bounds}
use Rattle.job.specs.declared.record.Stream.{Stream}
use Rattle.job.specs.Record.{no_stream, zero_vector}
use Rattle.job.specs.Limits.{Unused, Idle}
use Rattle.layout.specs.Layout.{streams_from, matrices_from, total_of, header_of, box_bytes, streams_bytes, matrix_bytes, stream_bytes, vector_bytes, file_of, Lays}
use Rattle.header.specs.Header.{at}
use Rattle.reader.specs.Pieces.{part, Headed, BoxIn, StreamAt, RowAt}
use Rattle.reader.proofs.Places.{part_bytes, pair_bytes, joined_parts}

-- zeros are unused
zero_unused : (n : ℕ) (v : Vector) → v ≡ zero_vector → Unused n v
zero_unused n v e = rw e ((λ h. refl), ((λ h. refl), ((λ h. refl), ((λ h. refl), tt))))

-- and so is a stream of zeros
none_idle : (t : Stream) → t ≡ no_stream → Idle t
none_idle t e = rw e record { vector = zero_unused 0 zero_vector refl; kind = refl; rule = refl; sources = (refl, refl) }

module _ (s : List ℕ) (h : Headed s) (n k m : ℕ) (en : n ≡ at s 2) (ek : k ≡ at s 3) (em : m ≡ at s 4) where
  -- the bytes are as many as the counts ask
  whole : length s ≡ total_of 1 n k m
  whole = h.whole ∙ h.placed.total ∙ rw (en, ek, em)

  -- the counts are in range, and there are bytes for them
  pub room : ((n ≤ 4) × (k ≤ 2) × (m ≤ 4)) × (total_of 1 n k m ≤ length s)
  room = let d = h.counted in ((omega arith, omega arith, omega arith), omega (arith, whole))

  -- the first 16 bytes are the header
  header_is : ((i : ℕ) → at s i < 256) → header_of 1 n k m ≡ take 16 s
  unfolding header_of
  header_is b =
      let c = h.counted in
      let p = h.placed in
      let e0 = pair_bytes _ _ 1 (b 0) (b 1) h.form in
      let e6 = pair_bytes _ _ 16 (b 6) (b 7) p.box in
      let e8 = pair_bytes _ _ (streams_from 1 n) (b 8) (b 9) (p.streams ∙ rw en) in
      let e10 = pair_bytes _ _ (matrices_from 1 n m) (b 10) (b 11) (p.matrices ∙ rw (en, em)) in
      let e12 = pair_bytes _ _ (total_of 1 n k m) (b 12) (b 13) (p.total ∙ rw (en, ek, em)) in
      let e14 = pair_bytes _ _ 0 (b 14) (b 15) c.zero.1 in
      (cc) ∙ sym (part_bytes s 0 16 h.long)

  -- the bytes are the header and the parts that follow it
  split : take 16 s ++ part s 16 (2 * n) ++ part s (streams_from 1 n) (m * (n + 4)) ++ part s (matrices_from 1 n m) ((1 + k) * n) ≡ s
  split =
      let f : streams_from 1 n ≡ 16 + 2 * n = omega arith in
      let g : matrices_from 1 n m ≡ streams_from 1 n + m * (n + 4) = omega arith in
      let t : length s ≤ matrices_from 1 n m + (1 + k) * n = omega (arith, whole) in
      let a : take 16 s ++ part s 16 (2 * n) ≡ take (streams_from 1 n) s = sym (ap (λ (i : ℕ). take i s) f ∙ take-add 16 (2 * n) s) in
      let b : take (streams_from 1 n) s ++ part s (streams_from 1 n) (m * (n + 4)) ≡ take (matrices_from 1 n m) s = sym (ap (λ (i : ℕ). take i s) g ∙ take-add (streams_from 1 n) (m * (n + 4)) s) in
      let e : take (matrices_from 1 n m) s ++ part s (matrices_from 1 n m) ((1 + k) * n) ≡ s = sym (take-add (matrices_from 1 n m) ((1 + k) * n) s) ∙ take_all (matrices_from 1 n m + (1 + k) * n) s t in
      rw (a, b) e

  -- so the record of the pieces has them for its file
  pub lays : ((i : ℕ) → at s i < 256) → (b : Bounds) (t0 t1 t2 t3 : Stream) (v0 v1 v2 : Vector) → BoxIn n (part s 16 (2 * n)) b → StreamAt s n m 0 t0 → StreamAt s n m 1 t1 → StreamAt s n m 2 t2 → StreamAt s n m 3 t3 → RowAt s n k m 0 v0 → RowAt s n k m 1 v1 → RowAt s n k m 2 v2 → Lays (record { n = n; k = k; m = m; bounds = b; s0 = t0; s1 = t1; s2 = t2; s3 = t3; time = v0; row0 = v1; row1 = v2 }) s
  unfolding file_of box_bytes streams_bytes matrix_bytes
  lays small b t0 t1 t2 t3 v0 v1 v2 p q0 q1 q2 q3 r0 r1 r2 =
      let c = h.counted in
      let x = joined_parts (stream_bytes 1 n) s (streams_from 1 n) (n + 4) m (t0 ∷ t1 ∷ t2 ∷ t3 ∷ []) ((λ i. (q0.used i).bytes), ((λ i. (q1.used i).bytes), ((λ i. (q2.used i).bytes), ((λ i. (q3.used i).bytes), room.0.2)))) in
      let y = joined_parts (vector_bytes 1 n) s (matrices_from 1 n m) n (1 + k) (v0 ∷ v1 ∷ v2 ∷ []) ((λ i. (r0.used i).bytes), ((λ i. (r1.used i).bytes), ((λ i. (r2.used i).bytes), omega (arith, room)))) in
      record {
        shaped = record {
          dimensions = omega arith;
          places = omega arith;
          streams = omega arith;
          box = p.unused;
          vectors = ((λ i. (q0.used i).unused), ((λ i. (q1.used i).unused), ((λ i. (q2.used i).unused), ((λ i. (q3.used i).unused), tt))));
          idle = ((λ i. none_idle t0 (q0.idle i)), ((λ i. none_idle t1 (q1.idle i)), ((λ i. none_idle t2 (q2.idle i)), ((λ i. none_idle t3 (q3.idle i)), tt))));
          rows = ((λ i. (r0.used i).unused), ((λ i. (r1.used i).unused), ((λ i. (r2.used i).unused), tt)));
          idle_rows = ((λ i. zero_unused 0 v0 (r0.idle i)), ((λ i. zero_unused 0 v1 (r1.idle i)), ((λ i. zero_unused 0 v2 (r2.idle i)), tt)));
        };
        low = p.held.0;
        high = p.held.1;
        streams = ((q0.held, q1.held), (q2.held, q3.held));
        rows = (r0.held, (r1.held, r2.held));
        file = ap₂ ◌++◌ (ap₂ ◌++◌ (ap₂ ◌++◌ (header_is small) p.bytes) x) y ∙ split;
      }
