-- One row after the other: after i turns i of them are put.
use mathlib.Core.Path.{◌≡◌}
use Prim.Native.Nat.{◌+◌, ◌<◌, ◌≤◌}
use native.Mathlib.Omega.{arith}
use Rattle.job.specs.Record.{rows_of, zero_vector}
use Rattle.layout.specs.Layout.{vector_bytes, matrix_bytes}
use Rattle.buffer.proofs.Putting.{none}
use Rattle.file.proofs.Fitting.{row_held}
use Rattle.file.proofs.Joined.{as_long, next_room, next_put}
use Rattle.file.proofs.put_matrices.Goals as goal

pub loop-i-init : goal.loop-i-init
loop-i-init c = (omega arith, none _ _)

pub put_vector-next-requires : goal.put_vector-next-requires
unfolding matrix_bytes
put_vector-next-requires c =
    let j = c.args.j in
    let few : 1 + j.k ≤ 3 = omega (arith, c.requires.0.shaped.places) in
    let below : c.loop-i.i < 1 + j.k = omega (arith, c.loop-i-test.true) in (
      c.requires.0.shaped.dimensions.1,
      rw c.row_at.ensures (row_held j c.requires.0 c.loop-i.i below),
      rw c.row_at.ensures (next_room (vector_bytes 1 j.n) (rows_of j) (1 + j.k) few c.requires.1 c.loop-i.i c.loop-i.invariant.1 zero_vector below),
    )

pub loop-i-preserved : goal.loop-i-preserved
unfolding matrix_bytes
loop-i-preserved c =
    let j = c.args.j in
    let few : 1 + j.k ≤ 3 = omega (arith, c.requires.0.shaped.places) in
    let below : c.loop-i.i < 1 + j.k = omega (arith, c.loop-i-test.true) in (
      omega arith,
      next_put (vector_bytes 1 j.n) (rows_of j) (1 + j.k) few c.requires.1 c.loop-i.i c.loop-i.invariant.1 zero_vector below
          (rw c.row_at.ensures at c.put_vector-next.ensures),
    )

pub shape_of-buf : goal.shape_of-buf
unfolding matrix_bytes
shape_of-buf c =
    let j = c.args.j in
    let few : 1 + j.k ≤ 3 = omega (arith, c.requires.0.shaped.places) in
    as_long (vector_bytes 1 j.n) (rows_of j) (1 + j.k) few c.requires.1 c.loop-i.i c.loop-i.invariant.1 c.loop-i.invariant.0

pub returns : goal.returns
unfolding matrix_bytes
returns c =
    let e : c.loop-i.i ≡ 1 + c.args.j.k = omega (arith, c.loop-i.invariant.0, c.loop-i-test.false) in
    rw e at c.loop-i.invariant.1
