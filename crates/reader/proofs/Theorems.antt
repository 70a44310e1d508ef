-- Bytes have one reply: the file of an acceptable job passes every check, and no other job has it.
use mathlib.Core.Path.{◌≡◌, refl, sym, ap, subst, ◌∙◌}
use mathlib.Core.List.{List}
use Rattle.std.specs.Prelude.{Result, Ok, Err}
use Prim.Native.Nat.{ℕ, ◌+◌, ◌<◌, ◌≤◌}
use native.Mathlib.Decide.{dec_le}
use native.Mathlib.Omega.{arith}
use Rattle.space.specs.declared.vector.Vector.{Vector}
use Rattle.space.specs.Vectors.{entries, Sized}
use Rattle.job.specs.declared.record.Stream.{Stream}
use Rattle.job.specs.declared.record.Job.{Job}
use Rattle.job.specs.declared.refusal.Refusal.{Refusal}
use Rattle.job.specs.Refusals.{First, number_of}
use Rattle.job.specs.Limits.{Unused, Idle, Shaped, Sound, Acceptable, row_limit}
use Rattle.job.proofs.Refusing.{first_unique, acceptable, number_unique, refuses}
use Rattle.job.proofs.Accepting.{empty_sized}
use Rattle.layout.specs.Layout.{streams_from, matrices_from, total_of, header_of, file_of, InBytes, Lays}
use Rattle.layout.proofs.Entries.{sized_held}
use Rattle.layout.proofs.Injective.{lays_unique, file_length}
use Rattle.layout.proofs.Totals.{total_small}
use Rattle.reader.specs.Reading.{file_checks, Reads}
use Rattle.reader.specs.Pieces.{Headed}
use Rattle.reader.proofs.Places.{pair_value}
use Rattle.reader.proofs.Replying.{record_first}

-- ---- an acceptable job's entries are held in bytes
-- a vector that is not used
unused_held : (v : Vector) → Unused 0 v → InBytes v
unused_held v u = sized_held {b = 0} (omega arith) (empty_sized 0 v u)

-- a place is used or not
by_place : {P : Type 0} (i n : ℕ) → (i < n → P) → (n ≤ i → P) → P
by_place {P} i n f g = by (dec_le n i)
  where
    by : Dec (n ≤ i) → P
    by (yes h) = g h
    by (no h) = f (omega arith)

-- a stream that is sound where it is used
stream_held : (i m : ℕ) (t : Stream) → (i < m → Sound m t) → (m ≤ i → Idle t) → InBytes t.d
stream_held i m t f g = by_place i m (λ h. sized_held (omega arith) (f h).small) (λ h. unused_held t.d (g h).vector)

-- a row that is under its limit where it is used
row_held : (i m : ℕ) (v : Vector) → (i < m → Sized row_limit (entries v)) → (m ≤ i → Unused 0 v) → InBytes v
row_held i m v f g = by_place i m (λ h. sized_held (omega arith) (f h)) (λ h. unused_held v (g h))

-- so it is laid out by its file
acceptable_lays : (j : Job) (s : List ℕ) → Acceptable j → file_of j ≡ s → Lays j s
acceptable_lays j s a e =
    let t = a.sound in
    let i = a.shaped.idle in
    let r = a.rowed in
    let u = a.shaped.idle_rows in
    record {
      shaped = a.shaped;
      low = sized_held (omega arith) a.boxed.low;
      high = sized_held (omega arith) a.boxed.high;
      streams = (
        (stream_held 0 j.m j.s0 t.0 i.0, stream_held 1 j.m j.s1 t.1.0 i.1.0),
        (stream_held 2 j.m j.s2 t.1.1.0 i.1.1.0, stream_held 3 j.m j.s3 t.1.1.1.0 i.1.1.1.0),
      );
      rows = (row_held 0 (1 + j.k) j.time r.0 u.0, (row_held 1 (1 + j.k) j.row0 r.1.0 u.1.0, row_held 2 (1 + j.k) j.row1 r.1.1.0 u.1.1.0));
      file = e;
    }

-- ---- and its file has the header that is asked
module _ (j : Job) (a : Shaped j) where
  -- the total, and with it each offset, is small
  small_total : total_of 1 j.n j.k j.m < 65536
  small_total = omega (arith, total_small _ _ _ a.dimensions.1 a.places.1 a.streams.1)

  -- the header passes
  file_headed : Headed (file_of j)
  unfolding file_of header_of
  file_headed = record {
    long = omega (arith, file_length j a);
    form = refl;
    counted = record { dimensions = a.dimensions; places = a.places; streams = a.streams; zero = (refl, refl) };
    placed = record {
      box = refl;
      streams = pair_value (streams_from 1 j.n) (omega (arith, small_total));
      matrices = pair_value (matrices_from 1 j.n j.m) (omega (arith, small_total));
      total = pair_value (total_of 1 j.n j.k j.m) small_total;
    };
    whole = file_length j a ∙ sym (pair_value (total_of 1 j.n j.k j.m) small_total);
  }

-- no check refuses it
acceptable_first : (j : Job) (s : List ℕ) → Acceptable j → file_of j ≡ s → First (file_checks s) 0
acceptable_first j s a e = record_first s (subst Headed e (file_headed j a.shaped)) j (acceptable_lays j s a e) 0 (acceptable j a)

-- two replies to the same bytes are one
pub reads_unique : (s : List ℕ) (r r' : Result Job Refusal) → Reads s r → Reads s r' → r ≡ r'
reads_unique s (Ok j) (Ok j') p q = ap Ok (lays_unique j j' s (acceptable_lays j s p.0 p.1) (acceptable_lays j' s q.0 q.1))
reads_unique s (Ok j) (Err r) p q = absurd (refuses r (first_unique (file_checks s) (number_of r) 0 q (acceptable_first j s p.0 p.1)))
reads_unique s (Err r) (Ok j) p q = absurd (refuses r (first_unique (file_checks s) (number_of r) 0 p (acceptable_first j s q.0 q.1)))
reads_unique s (Err r) (Err r') p q = ap Err (number_unique r r' (first_unique (file_checks s) (number_of r) (number_of r') p q))
