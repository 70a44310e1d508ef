-- The verdict by the rules, or the limit that is broken.
use mathlib.Core.Path.{refl}
use Rattle.job.proofs.Refusing.{accepted, refuses}
use Rattle.verdict.proofs.Saying.{says_limit}
use Rattle.verdict.proofs.judge.verdict_of.Goals as goal

pub judged-requires : goal.judged-requires
judged-requires c = accepted _ refl c.in-Ok.ensures

pub returns-in-Err : goal.returns-in-Err
returns-in-Err c = rw c.from.ensures (says_limit (c.in-Err.ensures, refuses _))
