-- One stream after the other: after i turns i of them are put.
use mathlib.Core.Path.{◌≡◌}
use native.Mathlib.Omega.{arith}
use Rattle.job.specs.Record.{streams_of, no_stream}
use Rattle.layout.specs.Layout.{stream_bytes, streams_bytes}
use Rattle.buffer.proofs.Putting.{none}
use Rattle.file.proofs.Fitting.{stream_held}
use Rattle.file.proofs.Joined.{as_long, next_room, next_put}
use Rattle.file.proofs.put_streams.Goals as goal

pub loop-i-init : goal.loop-i-init
loop-i-init c = (omega arith, none _ _)

pub put_stream-next-requires : goal.put_stream-next-requires
unfolding streams_bytes
put_stream-next-requires c =
    let j = c.args.j in (
      c.requires.0.shaped.dimensions.1,
      rw c.stream_at.ensures (stream_held j c.requires.0 c.loop-i.i c.loop-i-test.true),
      rw c.stream_at.ensures (next_room (stream_bytes 1 j.n) (streams_of j) j.m c.requires.0.shaped.streams.1 c.requires.1 c.loop-i.i c.loop-i.invariant.1 no_stream c.loop-i-test.true),
    )

pub loop-i-preserved : goal.loop-i-preserved
unfolding streams_bytes
loop-i-preserved c =
    let j = c.args.j in (
      omega (arith, c.loop-i-test.true),
      next_put (stream_bytes 1 j.n) (streams_of j) j.m c.requires.0.shaped.streams.1 c.requires.1 c.loop-i.i c.loop-i.invariant.1 no_stream c.loop-i-test.true
          (rw c.stream_at.ensures at c.put_stream-next.ensures),
    )

pub shape_of-buf : goal.shape_of-buf
unfolding streams_bytes
shape_of-buf c =
    let j = c.args.j in
    as_long (stream_bytes 1 j.n) (streams_of j) j.m c.requires.0.shaped.streams.1 c.requires.1 c.loop-i.i c.loop-i.invariant.1 c.loop-i.invariant.0

pub returns : goal.returns
unfolding streams_bytes
returns c =
    let e : c.loop-i.i ≡ c.args.j.m = omega (arith, c.loop-i.invariant.0, c.loop-i-test.false) in
    rw e at c.loop-i.invariant.1
