-- What the closure answers for a stream is what comes in on it.
use Rattle.std.proofs.Common.{rules}
use Rattle.array.proofs.work.incoming_all.Goals as goal

pub returns : goal.returns
returns c = λ s h. let k = c.gathered.ensures s h in search rules
