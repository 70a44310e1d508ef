-- The first k ticks are written, p is the point at k, and what is behind the points is as before.
use Rattle.std.proofs.Common.{◌≡◌, ℕ, ◌<◌, ◌≤◌, get_or}
use Rattle.space.specs.Vectors.{entries}
use Rattle.space.specs.Boxes.{PointAt}
use Rattle.job.specs.Record.{box, points as points_of}
use Rattle.frame.specs.Frames.{tick_of}
use Rattle.frame.proofs.fill_timetable.Given as goal

abbrev pub invariant-loop-k : goal.invariant-loop-k
invariant-loop-k l = record {
  ticks : (i : ℕ) → i < l.k → get_or l.timetable i 0 ≡ tick_of l.f.job i;
  at : PointAt (box l.f.job) l.k (entries l.p);
  rest : (i : ℕ) → points_of l.f.job ≤ i → get_or l.timetable i 0 ≡ get_or l.initial.timetable i 0;
}
