-- Each product of z and an entry fits.
use Prim.Native.Nat.{◌*◌}
use lib.IntN.{ℤ, ◌*ℤ◌}
use Rattle.space.specs.Numbers.{Size, limit}
use Rattle.space.specs.Vectors.{times_of}
use Rattle.space.proofs.Machine.{Is, held, arg, mul, read}
use Rattle.space.proofs.VectorLaws.{four}
use Rattle.space.proofs.vector.times.Goals as goal

one : {x y : ℤ} → Size limit x → Size limit y → Is (limit * limit) (x *ℤ y) (held x *ℤ held y)
one p q = mul (arg p tt) (arg q tt) tt

pub returns : goal.returns
unfolding times_of
returns c =
    let z = c.requires.0 in
    let v = c.requires.1.each in
    four (read (one z v.0)) (read (one z v.1.0)) (read (one z v.1.1.0)) (read (one z v.1.1.1.0))
