-- One row after the other: after i turns i of them are put.
use Prim.Native.Nat.{◌+◌, ◌≤◌}
use Rattle.job.specs.Record.{rows_of}
use Rattle.layout.specs.Layout.{joined, vector_bytes}
use Rattle.buffer.specs.Put.{Put}
use Rattle.file.proofs.put_matrices.Given as goal

abbrev pub invariant-loop-i : goal.invariant-loop-i
invariant-loop-i l = (l.i ≤ 1 + l.j.k) × Put l.initial.buf l.at (joined (vector_bytes 1 l.j.n) l.i (rows_of l.j)) l.next l.buf
