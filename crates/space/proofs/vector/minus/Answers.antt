-- Entry by entry, each as it is read back.
use native.Mathlib.Omega.{arith}
use Rattle.std.proofs.lemmas.Int.{ints}
use Rattle.space.specs.Vectors.{minus_of}
use Rattle.space.proofs.VectorLaws.{four}
use Rattle.space.proofs.vector.minus.Goals as goal

pub returns : goal.returns
unfolding minus_of
returns c = four (omega (arith, ints)) (omega (arith, ints)) (omega (arith, ints)) (omega (arith, ints))
