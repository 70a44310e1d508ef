-- The places from k on hold no point that passes both tests.
use mathlib.Core.Path.{◌≡◌}
use Rattle.array.specs.Ticks.{last_of, works, point_at}
use Rattle.array.proofs.lookup.place_at.Given as goal

abbrev pub invariant-loop-k : goal.invariant-loop-k
invariant-loop-k l = last_of (works l.f.job l.t l.x) l.k ≡ point_at l.f.job l.t l.x
