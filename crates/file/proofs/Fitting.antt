-- The entries of an acceptable job fit a byte.
use Prim.Native.Nat.{ℕ, ◌+◌, ◌<◌}
use native.Mathlib.Omega.{arith}
use lib.ListN.{get_or}
use Rattle.job.specs.declared.record.Job.{Job}
use Rattle.job.specs.Record.{streams_of, rows_of, no_stream, zero_vector}
use Rattle.job.specs.Limits.{Acceptable}
use Rattle.job.proofs.Accepting.{stream_sound, row_sized}
use Rattle.layout.specs.Layout.{InBytes}
use Rattle.layout.proofs.Entries.{sized_held}

module _ (j : Job) (a : Acceptable j) where
  -- the vector of a stream that is used
  pub stream_held : (i : ℕ) → i < j.m → InBytes (get_or (streams_of j) i no_stream).d
  stream_held i h = sized_held (omega arith) (stream_sound j a i h).small

  -- H, and a row of S that is used
  pub row_held : (i : ℕ) → i < 1 + j.k → InBytes (get_or (rows_of j) i zero_vector)
  row_held i h = sized_held (omega arith) (row_sized j a i h)
