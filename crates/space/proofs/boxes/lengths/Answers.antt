-- From l to one past u.
use mathlib.Core.Path.{sym, ap, subst, ◌∙◌}
use mathlib.Core.List.{zip_with}
use native.Mathlib.Omega.{arith}
use borrow.Author.Rules.{rules}
use Rattle.space.specs.Numbers.{steps, limit}
use Rattle.space.specs.Vectors.{entries, plus_of, Sized}
use Rattle.space.proofs.VectorLaws.{sized_up, plus_sized}
use Rattle.space.proofs.boxes.lengths.Goals as goal

pub steps_each-requires : goal.steps_each-requires
steps_each-requires c =
    (sized_up (omega arith) c.requires.0, subst (Sized limit) (sym c.plus.ensures) (sized_up (omega arith) (plus_sized {d = 1} c.requires.1 (search rules))))

pub returns : goal.returns
unfolding zip_with plus_of
returns c = c.steps_each.ensures ∙ ap (zip_with steps (entries c.args.b.low)) c.plus.ensures
