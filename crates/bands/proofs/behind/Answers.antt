-- Row and column of the cell, less the hop; its number where both lie within the bounds.
use mathlib.Core.Path.{◌≡◌, sym, ap, subst, ◌∙◌}
use mathlib.Core.Bool.{Bool, true, false, ◌&&◌}
use mathlib.Core.List.{List, [], ◌∷◌}
use Rattle.std.specs.Prelude.{Some}
use Prim.Native.Nat.{ℕ, ◌+◌, ◌/◌, ◌%◌, ◌<◌, ◌≤◌}
use lib.IntN.{ℤ, pos, ◌+ℤ◌, ◌-ℤ◌}
use lib.Signed.{◌≤ℤ◌}
use Rattle.space.specs.Numbers.{Size, Tells, limit}
use Rattle.space.specs.Boxes.{side, In, place_of, count_of}
use Rattle.space.proofs.VectorLaws.{two}
use Rattle.space.proofs.Machine.{Is, held, arg, add, sub, fit, read, as_held}
use Rattle.space.proofs.BoxLaws.{told_in, told_last}
use Rattle.space.proofs.BackLaws.{back_told}
use Rattle.bands.specs.Bands.{rectangle_of, hop_of, Short}
use Rattle.bands.specs.declared.rectangle.Rectangle.{Rectangle}
use Rattle.bands.specs.declared.Band.{Band}
use Rattle.bands.proofs.BandLaws.{cell_back, few}
use Rattle.bands.proofs.behind.Goals as goal

-- a cell of the rectangle, which has n columns, and a hop
record Known (r : Rectangle) (b : Band) (x n : ℕ) : Type 0 where
  pub short : Short b
  pub low : x < count_of (rectangle_of r)
  pub columns : n ≡ count_of (side r.low1 r.high1 ∷ [])

known : (r : Rectangle) {b : Band} {x n : ℕ} → Short b × (x < count_of (rectangle_of r)) → n ≡ count_of (side r.low1 r.high1 ∷ []) → Known r b x n
known r h e = record { short = h.0; low = h.1; columns = e }

-- what the code works out, as numbers
module _ {r : Rectangle} {b : Band} {x n : ℕ} (k : Known r b x n) where
  small : (0 < n) × (x / n ≤ limit + limit) × (x % n ≤ limit + limit)
  small = few r x n k.columns k.low

  row : Is (limit + limit) (pos (x / n)) (pos (x / n))
  row = arg (record { size = small.1 }) tt

  column : Is (limit + limit) (pos (x % n)) (pos (x % n))
  column = arg (record { size = small.2 }) tt

  from0 : Is (limit + (limit + limit)) (r.low0 +ℤ pos (x / n)) (held r.low0 +ℤ held (pos (x / n)))
  from0 = add (arg r.rows.0 tt) row tt

  from1 : Is (limit + (limit + limit)) (r.low1 +ℤ pos (x % n)) (held r.low1 +ℤ held (pos (x % n)))
  from1 = add (arg r.columns.0 tt) column tt

  -- the cell one hop back
  abbrev y0 : ℤ
  y0 = r.low0 +ℤ pos (x / n) -ℤ b.hop0

  abbrev y1 : ℤ
  y1 = r.low1 +ℤ pos (x % n) -ℤ b.hop1

  to0 : Is (limit + (limit + limit) + limit) y0 (held (held r.low0 +ℤ held (pos (x / n))) -ℤ held b.hop0)
  to0 = sub from0 (arg k.short.rows tt) tt

  to1 : Is (limit + (limit + limit) + limit) y1 (held (held r.low1 +ℤ held (pos (x % n))) -ℤ held b.hop1)
  to1 = sub from1 (arg k.short.columns tt) tt

  abbrev cell : List ℤ
  cell = y0 ∷ y1 ∷ []

-- what is told of the numbers that are read back
of_within : {b : ℕ} {l y u v : ℤ} {r : Bool} → Size limit l → Is b y v → Size limit u → Tells ((held l ≤ℤ held v) × (held v ≤ℤ held u)) r → Tells ((l ≤ℤ y) × (y ≤ℤ u)) r
of_within f g h t = rw (as_held tt f, read g, as_held tt h) at t

-- whether a cell is in the rectangle, by its row and its column
told : {d : ℕ} (r : Rectangle) {z0 z1 v0 v1 : ℤ} {p q : Bool} → Is d z0 v0 → Is d z1 v1 → Tells ((held r.low0 ≤ℤ held v0) × (held v0 ≤ℤ held r.high0)) p → Tells ((held r.low1 ≤ℤ held v1) × (held v1 ≤ℤ held r.high1)) q → Tells (In (rectangle_of r) (z0 ∷ z1 ∷ [])) (p && q)
told r {z0} {z1} i j s t =
    told_in _ _ (side r.low0 r.high0) (side r.low1 r.high1 ∷ []) z0 (z1 ∷ []) (of_within r.rows.0 i r.rows.1 s) (told_last (side r.low1 r.high1) z1 (of_within r.columns.0 j r.columns.1 t))

pub nonzero_div-y0 : goal.nonzero_div-y0
nonzero_div-y0 c = (small (known c.args.r c.requires c.columns-n.ensures)).0

pub overflow_cast-y0 : goal.overflow_cast-y0
overflow_cast-y0 c = fit (row (known c.args.r c.requires c.columns-n.ensures))

pub overflow_add-y0 : goal.overflow_add-y0
overflow_add-y0 c = fit (from0 (known c.args.r c.requires c.columns-n.ensures))

pub overflow_sub-y0 : goal.overflow_sub-y0
overflow_sub-y0 c = fit (to0 (known c.args.r c.requires c.columns-n.ensures))

pub nonzero_rem-y1 : goal.nonzero_rem-y1
nonzero_rem-y1 c = (small (known c.args.r c.requires c.columns-n.ensures)).0

pub overflow_cast-y1 : goal.overflow_cast-y1
overflow_cast-y1 c = fit (column (known c.args.r c.requires c.columns-n.ensures))

pub overflow_add-y1 : goal.overflow_add-y1
overflow_add-y1 c = fit (from1 (known c.args.r c.requires c.columns-n.ensures))

pub overflow_sub-y1 : goal.overflow_sub-y1
overflow_sub-y1 c = fit (to1 (known c.args.r c.requires c.columns-n.ensures))

pub number_of-requires : goal.number_of-requires
number_of-requires c =
    let k = known c.args.r c.requires c.columns-n.ensures in
    subst (In _) (sym (two (read (to0 k)) (read (to1 k)))) ((told c.args.r (to0 k) (to1 k) c.within.ensures c.within-2.ensures).holds c.if-within.true)

-- what the definition says, where the test answers so
pub returns-then-within : goal.returns-then-within
returns-then-within c =
    let r = c.args.r in
    let k = known r c.requires c.columns-n.ensures in
    let there = told r (to0 k) (to1 k) c.within.ensures c.within-2.ensures in
    let back = cell_back (side r.low0 r.high0) (side r.low1 r.high1) c.args.b.hop0 c.args.b.hop1 c.args.x c.columns-n.result c.columns-n.ensures in
    ap Some (c.number_of.ensures ∙ ap (place_of _) (two (read (to0 k)) (read (to1 k)))) ∙ back_told (rectangle_of r) (hop_of c.args.b) c.args.x (cell k) true back (subst (Tells _) c.if-within.true there)

pub returns-else-within : goal.returns-else-within
returns-else-within c =
    let r = c.args.r in
    let k = known r c.requires c.columns-n.ensures in
    let there = told r (to0 k) (to1 k) c.within.ensures c.within-2.ensures in
    let back = cell_back (side r.low0 r.high0) (side r.low1 r.high1) c.args.b.hop0 c.args.b.hop1 c.args.x c.columns-n.result c.columns-n.ensures in
    back_told (rectangle_of r) (hop_of c.args.b) c.args.x (cell k) false back (subst (Tells _) c.if-within.false there)
