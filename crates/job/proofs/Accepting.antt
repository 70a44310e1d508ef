-- What an acceptable job keeps: by the number of the stream or row, and the sizes of its rows, its bounds and its points.
use mathlib.Core.Path.{◌≡◌}
use mathlib.Core.List.{List, [], ◌∷◌}
use Prim.Native.Nat.{ℕ, zero, suc, ◌+◌, ◌<◌, ◌≤◌}
use native.Mathlib.Omega.{arith}
use native.Mathlib.Decide.{dec_le}
use lib.ListN.{length, get_or}
use lib.IntN.{ℤ, pos}
use Rattle.space.specs.declared.vector.Vector.{Vector}
use Rattle.space.specs.Numbers.{Size, coordinate, difference, entry}
use Rattle.space.specs.Vectors.{entries, Sized}
use Rattle.space.proofs.VectorLaws.{sized_up}
use Rattle.space.specs.Boxes.{Solid, Within, box_of, In}
use Rattle.space.proofs.BoxLaws.{inside_sized}
use Rattle.job.specs.declared.record.Job.{Job}
use Rattle.job.specs.Record.{FirstsFrom, streams_of, rows_of, no_stream, zero_vector, along}
use Rattle.job.specs.Limits.{Acceptable, Unused, Sound, row_limit}

-- what holds of the first n, counted from k, holds of the one that stands i after k
firsts_at : {A : Type 0} (P : A → Type 0) (n k : ℕ) (xs : List A) (d : A) (i : ℕ) → FirstsFrom k P n xs → k + i < n → i < length xs → P (get_or xs i d)
firsts_at P n k [] d i p h l = absurd (omega arith)
firsts_at P n k (x ∷ xs) d zero p h l = p.0 (omega arith)
firsts_at P n k (x ∷ xs) d (suc i) p h l = firsts_at P n (suc k) xs d i p.1 (omega arith) (omega arith)

-- a vector with no coordinate used is as small as any
pub empty_sized : (b : ℕ) (v : Vector) → Unused 0 v → Sized b (entries v)
empty_sized b v h =
    record { each = (zero_sized (h.0 (omega arith)), (zero_sized (h.1.0 (omega arith)), (zero_sized (h.1.1.0 (omega arith)), (zero_sized (h.1.1.1.0 (omega arith)), tt)))) }
  where
    zero_sized : {x : ℤ} → x ≡ pos 0 → Size b x
    zero_sized e = rw e (record { size = omega arith })

module _ (j : Job) (a : Acceptable j) where
  -- a stream that is used keeps its line
  pub stream_sound : (s : ℕ) → s < j.m → Sound j.m (get_or (streams_of j) s no_stream)
  stream_sound s h = let m = a.shaped.streams in firsts_at (Sound j.m) j.m 0 (streams_of j) no_stream s a.sound (omega arith) (omega arith)

  -- and its d is small
  pub along_sized : (s : ℕ) → s < j.m → Sized difference (along j s)
  along_sized s h = sized_up (omega arith) (stream_sound s h).small

  -- H, and a row of S that is used, is small
  pub row_sized : (i : ℕ) → i < 1 + j.k → Sized row_limit (entries (get_or (rows_of j) i zero_vector))
  row_sized i h =
      let k = a.shaped.places in
      firsts_at (λ (v : Vector). Sized row_limit (entries v)) (1 + j.k) 0 (rows_of j) zero_vector i a.rowed (omega arith) (omega arith)

  -- and so are all rows, used or not
  pub time_sized : Sized row_limit (entries j.time)
  time_sized = a.rowed.0 (omega arith)

  pub row0_sized : Sized row_limit (entries j.row0)
  row0_sized = let k = a.shaped.places in a.rowed.1.0 (omega arith)

  pub row1_sized : Sized row_limit (entries j.row1)
  row1_sized = by (dec_le 2 j.k)
    where
      by : Dec (2 ≤ j.k) → Sized row_limit (entries j.row1)
      by (yes h) = a.rowed.1.1.0 (omega arith)
      by (no h) = empty_sized row_limit j.row1 (a.shaped.idle_rows.1.1.0 (omega arith))

  -- the bounds are small, l ≤ u for each, and the points are as small
  pub low_sized : Sized coordinate (entries j.bounds.low)
  low_sized = sized_up (omega arith) a.boxed.low

  pub high_sized : Sized coordinate (entries j.bounds.high)
  high_sized = sized_up (omega arith) a.boxed.high

  pub solid : Solid (box_of j.bounds)
  solid = a.boxed.solid

  pub in_box_sized : {p : List ℤ} → In (box_of j.bounds) p → Sized coordinate p
  in_box_sized i = inside_sized j.bounds low_sized high_sized i

-- and the reach of a row over its box can be worked out
pub reachable : (j : Job) {h : List ℤ} → Acceptable j → Sized row_limit h → Within coordinate j.bounds × Sized entry h × Solid (box_of j.bounds)
reachable j a p = ((low_sized j a, high_sized j a), sized_up (omega arith) p, solid j a)

-- the box of an acceptable job is small enough to walk
pub walkable : {j : Job} → Acceptable j → Within difference j.bounds
walkable {j} a = (sized_up (omega arith) (low_sized j a), sized_up (omega arith) (high_sized j a))
