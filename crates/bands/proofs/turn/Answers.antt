-- By the flag.
use Rattle.bands.proofs.turn.Goals as goal

pub returns-then-falls : goal.returns-then-falls
returns-then-falls c = rw c.if-falls.true
