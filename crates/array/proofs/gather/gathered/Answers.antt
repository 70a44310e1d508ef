-- The answer for one stream more.
use Rattle.std.proofs.Common.{arith}
use Rattle.array.proofs.Gathering.{firsts_step}
use Rattle.array.proofs.gather.gathered.Goals as goal

pub loop-s-preserved : goal.loop-s-preserved
loop-s-preserved g c = rw c.from.ensures (firsts_step _ c.loop-s.invariant (omega arith) c.incoming.ensures)
