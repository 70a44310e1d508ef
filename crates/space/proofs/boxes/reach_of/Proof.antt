-- The least and the greatest product are those of the definitions, and small.
use mathlib.Core.Path.{refl, sym, ap, ap₂, ◌∙◌}
use Prim.Native.Nat.{◌+◌}
use native.Mathlib.Omega.{arith}
use lib.IntN.{ℤ, pos, ◌+ℤ◌}
use Rattle.space.specs.Numbers.{Size, steps}
use Rattle.space.specs.Vectors.{entries}
use Rattle.space.specs.Boxes.{box_of}
use Rattle.space.proofs.Machine.{Is, held, arg, lit, add, fit, read, as_held}
use Rattle.space.proofs.VectorLaws.{sized_up}
use Rattle.space.proofs.Ints.{size_up}
use Rattle.space.proofs.BoxLaws.{within_up, sides_sized}
use Rattle.space.proofs.ExtremeLaws.{product_limit, least_is, greatest_is, least_unique, greatest_unique, ends_small}
use Rattle.space.proofs.boxes.reach_of.Statement.{statement}
use Rattle.space.proofs.boxes.reach_of.Tie as tie

least-low-requires : tie.Need-least-low-requires
least-low-requires c κs = let p = c.requires in (within_up (omega arith) p.0, sized_up (omega arith) p.1, p.2)

greatest-high-requires : tie.Need-greatest-high-requires
greatest-high-requires c κs = let p = c.before.requires in (within_up (omega arith) p.0, sized_up (omega arith) p.1, p.2)

small : (c : tie.After-greatest-high) → Size product_limit c.before.least-low.result × Size product_limit c.greatest-high.result
small c =
    let a = c.before.before.args in
    let p = c.before.before.requires in
    ends_small refl p.1 (sides_sized a.b p.0.0 p.0.1) c.before.least-low.ensures c.greatest-high.ensures

-- one past the greatest
past : (c : tie.After-greatest-high) → Is (product_limit + 1) (c.greatest-high.result +ℤ pos 1) (held c.greatest-high.result +ℤ held (pos 1))
past c = add (arg (small c).1 tt) (lit 1 tt) tt

overflow_add-high : tie.Need-overflow_add-high
overflow_add-high c = fit (past c)

steps_above-requires : tie.Need-steps_above-requires
steps_above-requires c κs =
    rw (as_held {b = product_limit} tt (small c).0, read (past c)) (size_up (omega arith) (small c).0, size_up (omega arith) (past c).sized)

returns : tie.Need-returns
returns c =
    let a = c.before.before.before.args in
    let p = c.before.before.before.requires in
    let s = small c.before in
    let low = as_held {b = product_limit} tt s.0 ∙ least_unique c.before.before.least-low.ensures (least_is (entries a.h) (box_of a.b) refl p.2) in
    let high = as_held {b = product_limit} tt s.1 ∙ greatest_unique c.before.greatest-high.ensures (greatest_is (entries a.h) (box_of a.b) refl p.2) in
    record {
      low = low;
      high = high;
      count = c.steps_above.ensures ∙ ap₂ steps low (read (past c.before) ∙ ap (λ (z : ℤ). z +ℤ pos 1) (sym (as_held {b = product_limit} tt s.1) ∙ high));
    }

pub reach_of_spec : {M : Type 1} → statement M
reach_of_spec = tie.close (tie.spec least-low-requires greatest-high-requires overflow_add-high steps_above-requires returns)
