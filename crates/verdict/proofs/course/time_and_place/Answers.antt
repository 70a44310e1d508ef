-- Three products, each small.
use Rattle.std.proofs.Common.{refl, arith, ◌∙◌}
use Rattle.space.specs.Numbers.{limit, difference}
use Rattle.space.specs.Vectors.{entries, Sized}
use Rattle.space.specs.declared.vector.Vector.{Vector}
use Rattle.space.proofs.Machine.{in_range, back}
use Rattle.space.proofs.VectorLaws.{four, sized_up}
use Rattle.job.specs.Limits.{row_limit}
use Rattle.job.proofs.Accepting.{time_sized, row0_sized, row1_sized}
use Rattle.verdict.proofs.course.time_and_place.Goals as goal

-- a row and x are small enough for their product
asked : {h x : Vector} → Sized row_limit (entries h) → Sized difference (entries x) → Sized limit (entries h) × Sized limit (entries x)
asked p q = (sized_up (omega arith) p, sized_up (omega arith) q)

pub dot-requires : goal.dot-requires
dot-requires c = asked (time_sized c.args.j c.requires.0) c.requires.1

pub dot-requires-2 : goal.dot-requires-2
dot-requires-2 c = asked (row0_sized c.args.j c.requires.0) c.requires.1

pub dot-requires-3 : goal.dot-requires-3
dot-requires-3 c = asked (row1_sized c.args.j c.requires.0) c.requires.1

pub returns : goal.returns
returns c =
    four (back (in_range c.dot.type_inv) ∙ c.dot.ensures) (back (in_range c.dot-2.type_inv) ∙ c.dot-2.ensures)
    (back (in_range c.dot-3.type_inv) ∙ c.dot-3.ensures) refl
