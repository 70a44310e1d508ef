-- The cells whose turn has been have taken what arrived there before.
use Rattle.bands.proofs.BandLaws.{Shifting}
use Rattle.bands.proofs.shift.Given as goal

abbrev pub invariant-loop-k : goal.invariant-loop-k
invariant-loop-k l = Shifting l.r l.b l.slot l.down l.initial.places l.k l.places
