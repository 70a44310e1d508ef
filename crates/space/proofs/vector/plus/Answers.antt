-- Entry by entry, each as it is read back.
use native.Mathlib.Omega.{arith}
use Rattle.std.proofs.lemmas.Int.{ints}
use Rattle.space.specs.Vectors.{plus_of}
use Rattle.space.proofs.VectorLaws.{four}
use Rattle.space.proofs.vector.plus.Goals as goal

pub returns : goal.returns
unfolding plus_of
returns c = four (omega (arith, ints)) (omega (arith, ints)) (omega (arith, ints)) (omega (arith, ints))
