-- Of the streams before s the answers are gathered.
use Rattle.std.proofs.Common.{ℕ}
use Rattle.array.proofs.Gathering.{Firsts}
use Rattle.array.proofs.gather.gathered.Given as goal

abbrev pub invariant-loop-s : goal.invariant-loop-s
invariant-loop-s g l = Firsts (λ (u v : ℕ). goal.F-post g l.incoming u v) l.got l.s
