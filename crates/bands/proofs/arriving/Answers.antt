-- What stands at place slot of the cell that was found, or 0.
use mathlib.Core.Path.{◌≡◌, sym}
use Rattle.std.specs.Prelude.{Some}
use Prim.Native.Nat.{ℕ, ◌+◌, ◌*◌, ◌<◌}
use native.Mathlib.Omega.{arith}
use lib.ListN.{length}
use mathlib.Core.List.{List}
use Rattle.space.specs.Boxes.{back_of, count_of}
use Rattle.space.proofs.BackLaws.{back_below}
use Rattle.bands.specs.Bands.{rectangle_of, hop_of, Lent}
use Rattle.bands.specs.declared.rectangle.Rectangle.{Rectangle}
use Rattle.bands.specs.declared.Band.{Band}
use Rattle.bands.proofs.BandLaws.{its_place}
use Rattle.bands.proofs.arriving.Goals as goal

-- a cell y was found, one hop back from x: its place
there : {r : Rectangle} {b : Band} {slot : ℕ} {places : List ℕ} → Lent r b slot places → (x : ℕ) → x < count_of (rectangle_of r) → (y : ℕ) → back_of (rectangle_of r) (hop_of b) x ≡ Some y → y * b.w + slot < length places
there {r} {b} lent x low y is = its_place lent y (back_below (rectangle_of r) (hop_of b) x y is)

pub overflow_mul-i : goal.overflow_mul-i
overflow_mul-i c = let i = there c.requires.0 c.args.x c.requires.1 c.in-Some.y (sym c.in-Some.ensures) in omega arith

pub overflow_add-i : goal.overflow_add-i
overflow_add-i c = let i = there c.requires.0 c.args.x c.requires.1 c.in-Some.y (sym c.in-Some.ensures) in omega arith

pub offset_bounds-places-i : goal.offset_bounds-places-i
offset_bounds-places-i c = let i = there c.requires.0 c.args.x c.requires.1 c.in-Some.y (sym c.in-Some.ensures) in omega arith

pub bounds-places-i : goal.bounds-places-i
bounds-places-i c = there c.requires.0 c.args.x c.requires.1 c.in-Some.y (sym c.in-Some.ensures)

pub returns-in-Some : goal.returns-in-Some
returns-in-Some c = let e = sym c.in-Some.ensures in rw e

pub returns-in-None : goal.returns-in-None
returns-in-None c = let e = sym c.in-None.ensures in rw e
