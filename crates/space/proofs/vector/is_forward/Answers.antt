-- What the order of vectors says of one beside the vector of zeros.
use mathlib.Core.Path.{sym, subst}
use Rattle.space.specs.Numbers.{Tells}
use Rattle.space.specs.Vectors.{entries}
use Rattle.space.specs.Order.{Forward}
use Rattle.space.proofs.OrderLaws.{told_forward}
use Rattle.space.proofs.vector.is_forward.Goals as goal

pub returns : goal.returns
returns c = subst (Tells (Forward (entries c.args.v))) (sym c.lt.ensures) (told_forward c.args.v)
