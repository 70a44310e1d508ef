-- The bounds low - high and high - low are the box of differences of the laws.
use mathlib.Core.Path.{◌≡◌, sym, subst}
use mathlib.Core.List.{List}
use lib.IntN.{ℤ}
use borrow.Author.Rules.{rules}
use Rattle.space.specs.Numbers.{difference}
use Rattle.space.specs.Vectors.{Sized}
use Rattle.space.specs.Boxes.{Box, In, Apart, box_of}
use Rattle.space.specs.declared.boxes.Bounds.{Bounds}
use Rattle.space.proofs.VectorLaws.{minus_sized}
use Rattle.space.proofs.PairLaws.{spread, spread_box, in_apart, apart_in}
use Rattle.space.proofs.boxes.differences.Statement.{statement}
use Rattle.space.proofs.boxes.differences.Tie as tie

minus-requires : tie.Need-minus-requires
minus-requires c κs = search rules

minus-requires-2 : tie.Need-minus-requires-2
minus-requires-2 c κs = search rules

abbrev answer : tie.After-minus-2 → Bounds
answer c = record { low = c.before.minus.result; high = c.minus-2.result }

is_spread : (c : tie.After-minus-2) → box_of (answer c) ≡ spread (box_of c.before.before.before.before.args.b)
is_spread c = spread_box c.before.before.before.before.args.b (answer c) c.before.minus.ensures c.minus-2.ensures

-- a difference is in the answer
all : (c : tie.After-minus-2) (y : List ℤ) → Apart (box_of c.before.before.before.before.args.b) y → In (box_of (answer c)) y
all c y a = subst (λ (B : Box). In B y) (sym (is_spread c)) (apart_in (box_of c.before.before.before.before.args.b) y a)

returns : tie.Need-returns
returns c =
    let B = box_of c.before.before.before.before.args.b in
    let p = c.before.before.before.before.requires in (
      (subst (Sized difference) (sym c.before.minus.ensures) (minus_sized p.0 p.1), subst (Sized difference) (sym c.minus-2.ensures) (minus_sized p.1 p.0)),
      (λ y i. in_apart B y (subst (λ (D : Box). In D y) (is_spread c) i), λ y a. all c y a),
    )

pub differences_spec : {M : Type 1} → statement M
differences_spec = tie.close (tie.spec minus-requires minus-requires-2 returns)
