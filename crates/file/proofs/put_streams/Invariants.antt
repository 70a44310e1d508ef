-- One stream after the other: after i turns i of them are put.
use Prim.Native.Nat.{◌≤◌}
use Rattle.job.specs.Record.{streams_of}
use Rattle.layout.specs.Layout.{joined, stream_bytes}
use Rattle.buffer.specs.Put.{Put}
use Rattle.file.proofs.put_streams.Given as goal

abbrev pub invariant-loop-i : goal.invariant-loop-i
invariant-loop-i l = (l.i ≤ l.j.m) × Put l.initial.buf l.at (joined (stream_bytes 1 l.j.n) l.i (streams_of l.j)) l.next l.buf
