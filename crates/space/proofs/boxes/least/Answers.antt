-- The product at the least corner.
use mathlib.Core.Path.{refl, sym, subst, ◌∙◌}
use Rattle.space.specs.Vectors.{entries}
use Rattle.space.specs.Boxes.{box_of, Least}
use Rattle.space.proofs.Machine.{in_range, back}
use Rattle.space.proofs.BoxLaws.{inside_sized}
use Rattle.space.proofs.boxes.least.Goals as goal

pub least_corner-requires : goal.least_corner-requires
least_corner-requires c = c.requires.2

pub dot-requires : goal.dot-requires
dot-requires c =
    (c.requires.1, inside_sized c.args.b c.requires.0.0 c.requires.0.1 c.least_corner.ensures.inside)

pub returns : goal.returns
returns c =
    let at = c.least_corner in
    let B = box_of c.args.b in
    let h = entries c.args.h in
    subst (Least h B) (sym (back (in_range c.dot.type_inv) ∙ c.dot.ensures))
    (record { met = (entries at.result, at.ensures.inside, refl); below = at.ensures.below })
