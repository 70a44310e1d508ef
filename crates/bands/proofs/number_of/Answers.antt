-- Its row times the columns, and its column.
use mathlib.Core.Path.{◌≡◌, refl}
use mathlib.Core.List.{[], ◌∷◌}
use Prim.Native.Nat.{ℕ, ◌+◌, ◌*◌, ◌<◌}
use native.Mathlib.Omega.{arith}
use lib.IntN.{ℤ}
use Rattle.space.specs.Numbers.{Size, limit, steps}
use Rattle.space.specs.Boxes.{side, In, count_of, place_of}
use Rattle.space.proofs.Ints.{size_between}
use Rattle.space.proofs.Machine.{held, as_held, held_size}
use Rattle.space.proofs.BoxLaws.{place_below}
use Rattle.bands.specs.Bands.{rectangle_of}
use Rattle.bands.specs.declared.rectangle.Rectangle.{Rectangle}
use Rattle.bands.proofs.BandLaws.{cell_place, cells_few}
use Rattle.bands.proofs.number_of.Goals as goal

module _ (r : Rectangle) (y z : ℤ) (i : In (rectangle_of r) (y ∷ z ∷ [])) where
  -- the cell lies between ends that are small
  sizes : Size limit y × Size limit z
  unfolding In
  sizes =
      (size_between r.rows.0 r.rows.1 i.0 i.1, size_between r.columns.0 r.columns.1 i.2.0 i.2.1)

  -- its row times the columns with its column is its number, which is small
  number : (a n k : ℕ) → a ≡ steps (held r.low0) (held y) → n ≡ count_of (side r.low1 r.high1 ∷ []) → k ≡ steps (held r.low1) (held z) → a * n + k ≡ place_of (rectangle_of r) (y ∷ z ∷ [])
  number a n k e f g =
      rw (e, g, as_held tt r.rows.0, as_held tt sizes.0, as_held tt r.columns.0, as_held tt sizes.1) (cell_place (side r.low0 r.high0) (side r.low1 r.high1) y z n f)

  low : place_of (rectangle_of r) (y ∷ z ∷ []) < (limit + (limit + 1)) * (limit + (limit + 1))
  low = omega (arith, place_below _ _ i, cells_few r)

pub steps_above-row-requires : goal.steps_above-row-requires
steps_above-row-requires c = (held_size tt c.args.r.rows.0, held_size tt (sizes c.args.r _ _ c.requires).0)

pub steps_above-requires : goal.steps_above-requires
steps_above-requires c = (held_size tt c.args.r.columns.0, held_size tt (sizes c.args.r _ _ c.requires).1)

pub overflow_mul-result : goal.overflow_mul-result
overflow_mul-result c =
    let e = number c.args.r _ _ c.requires _ _ _ c.steps_above-row.ensures c.columns.ensures refl in
    omega (arith, low c.args.r _ _ c.requires)

pub overflow_add-result : goal.overflow_add-result
overflow_add-result c =
    let e = number c.args.r _ _ c.requires _ _ _ c.steps_above-row.ensures c.columns.ensures c.steps_above.ensures in
    omega (arith, low c.args.r _ _ c.requires)

pub returns : goal.returns
returns c = number c.args.r _ _ c.requires _ _ _ c.steps_above-row.ensures c.columns.ensures c.steps_above.ensures
