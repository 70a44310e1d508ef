-- The first k ticks are written, and p is the point at k.
use Prim.Native.Nat.{ℕ, ◌<◌}
use Rattle.space.specs.Vectors.{entries}
use Rattle.space.specs.Boxes.{In, PointAt}
use Rattle.space.specs.declared.vector.Vector.{Vector}
use Rattle.job.specs.Record.{box}
use Rattle.job.proofs.Accepting.{walkable}
use Rattle.space.proofs.BoxLaws.{stands_in}
use Rattle.verdict.proofs.Fits.{some_point}
use Rattle.frame.specs.Framing.{Framed}
use Rattle.frame.specs.declared.Frame.{Frame}
use Rattle.frame.proofs.fill_timetable.Goals as goal

-- the point at a place of the box is in it
inside : {f : Frame} (k : ℕ) (p : Vector) → Framed f → PointAt (box f.job) k (entries p) → k < f.points → In (box f.job) (entries p)
inside k p F at h = let low = rw F.points at h in stands_in _ k low (at low)

pub point-p-requires : goal.point-p-requires
point-p-requires c =
    let a = c.requires.0.runnable.acceptable in
    let w = walkable a in
    (w, some_point a)

pub tick_at-requires : goal.tick_at-requires
tick_at-requires c = (c.requires.0, inside c.loop-k.k c.loop-k.p c.requires.0 c.loop-k.invariant.at c.loop-k-test.true)

pub next-p-requires : goal.next-p-requires
next-p-requires c =
    let w = walkable c.requires.0.runnable.acceptable in
    (w, inside c.loop-k.k c.loop-k.p c.requires.0 c.loop-k.invariant.at c.loop-k-test.true)
