-- The columns before k are what the loop leaves, and p is the point at k.
use Prim.Native.Nat.{◌<◌}
use native.Mathlib.Omega.{arith}
use Rattle.job.specs.Record.{points}
use Rattle.job.proofs.Accepting.{walkable}
use Rattle.space.proofs.BoxLaws.{stands_in}
use Rattle.verdict.proofs.Fits.{some_point}
use Rattle.array.proofs.LoopLaws.{looped_step}
use Rattle.array.proofs.loops.fill.Goals as goal

pub point-p-requires : goal.point-p-requires
point-p-requires c =
    let g = c.requires.0.good in
    let w = walkable g in
    (w, some_point g)

pub next-p-requires : goal.next-p-requires
next-p-requires c =
    let w = walkable c.requires.0.good in
    let low : c.loop-k.k < points c.args.j = omega (arith, c.requires.0.count) in
    (w, stands_in _ c.loop-k.k low (c.loop-k.invariant.here low))

pub loop-k-preserved : goal.loop-k-preserved
loop-k-preserved c =
    let l = c.loop-k in
    let low : l.k < points c.args.j = omega (arith, c.requires.0.count) in
    record {
      looped = looped_step c.args.j c.requires.0.good _ l.values _ _ l.k l.invariant.looped low c.incoming_all-got.ensures c.put_column.ensures;
      here = c.next-p.ensures l.k (l.invariant.here low);
    }
