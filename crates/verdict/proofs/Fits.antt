-- What an acceptable job's numbers come to: small enough for every sum and product of the verdict.
use mathlib.Core.Path.{◌≡◌}
use mathlib.Core.List.{List}
use Prim.Native.Nat.{ℕ, ◌<◌}
use native.Mathlib.Omega.{arith}
use lib.IntN.{ℤ}
use Rattle.space.specs.declared.vector.Vector.{Vector}
use Rattle.space.specs.Numbers.{Size, limit, difference}
use Rattle.space.specs.Vectors.{entries, dot_of, Sized}
use Rattle.space.specs.Boxes.{count_of}
use Rattle.space.proofs.Ints.{size_up}
use Rattle.space.proofs.VectorLaws.{sized_up, dot_size}
use Rattle.job.specs.declared.record.Job.{Job}
use Rattle.job.specs.declared.record.Stream.{Stream}
use Rattle.job.specs.Limits.{Acceptable, row_limit}
use Rattle.job.proofs.Accepting.{along_sized, time_sized, row0_sized, row1_sized, solid}
use Rattle.job.specs.Record.{box, stream}
use Rattle.verdict.specs.Courses.{time_and_place}
use Rattle.space.proofs.BoxLaws.{solid_count}

module _ (j : Job) (a : Acceptable j) where
  -- H and d, as the stream that was read has it, are small enough for their product
  pub time_along : (s : ℕ) → s < j.m → {t : Stream} → t ≡ stream j s → Sized limit (entries j.time) × Sized limit (entries t.d)
  time_along s h e = (sized_up (omega arith) (time_sized j a), rw e (sized_up (omega arith) (along_sized j a s h)))

  -- Hx and Sx of a difference or of d
  pub placed_sized : (x : List ℤ) → Sized difference x → Sized limit (time_and_place j x)
  placed_sized x h =
      record { each = (product (time_sized j a), (product (row0_sized j a), (product (row1_sized j a), (record { size = omega arith }, tt)))) }
    where
      product : {v : Vector} → Sized row_limit (entries v) → Size limit (dot_of (entries v) x)
      product p = size_up (omega arith) (dot_size p h)

-- there is a first point
pub some_point : {j : Job} → Acceptable j → 0 < count_of (box j)
some_point {j} a = solid_count (box j) (solid j a)
