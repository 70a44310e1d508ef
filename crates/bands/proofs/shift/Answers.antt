-- The cells whose turn has been have taken what arrived there before; a cell is read before it is rewritten.
use mathlib.Core.Path.{◌≡◌, ap, ◌∙◌}
use mathlib.Core.Bool.{Bool}
use mathlib.Core.List.{List}
use Prim.Native.Nat.{ℕ, ◌+◌, ◌*◌, ◌<◌}
use native.Mathlib.Omega.{arith}
use lib.ListN.{length}
use Rattle.space.specs.Boxes.{count_of}
use Rattle.bands.specs.declared.rectangle.Rectangle.{Rectangle}
use Rattle.bands.specs.declared.Band.{Band}
use Rattle.bands.specs.Bands.{rectangle_of, Lent}
use Rattle.bands.specs.Turns.{turn_of}
use Rattle.bands.proofs.BandLaws.{turn_below, lent_as, its_place, shift_step, shift_end}
use Rattle.bands.proofs.shift.Goals as goal

-- the cell whose turn is the k-th, of so many
its_cell : {x cells all : ℕ} (k : ℕ) (down : Bool) → x ≡ turn_of down cells k → cells ≡ all → x ≡ turn_of down all k
its_cell k down e f = e ∙ ap (λ (n : ℕ). turn_of down n k) f

is_cell : {x cells all : ℕ} (k : ℕ) (down : Bool) → x ≡ turn_of down cells k → cells ≡ all → k < cells → x < all
is_cell {cells = cells} k down e f h = omega (arith, turn_below down cells k h)

-- its place is among the places
is_place : {r : Rectangle} {b : Band} {slot x cells : ℕ} {places : List ℕ} (k : ℕ) (down : Bool) → Lent r b slot places → x ≡ turn_of down cells k → cells ≡ count_of (rectangle_of r) → k < cells → x * b.w + slot < length places
is_place {x = x} k down l e f h = its_place l x (is_cell k down e f h)

pub falls-down-requires : goal.falls-down-requires
falls-down-requires c = c.requires.0.short

pub arriving-v-requires : goal.arriving-v-requires
arriving-v-requires c = (lent_as c.requires.0 c.loop-k.invariant.size, is_cell c.loop-k.k c.falls-down.result c.turn-x.ensures c.requires.1 c.loop-k-test.true)

pub overflow_mul-i : goal.overflow_mul-i
overflow_mul-i c =
    let i = is_place c.loop-k.k c.falls-down.result (lent_as c.requires.0 c.loop-k.invariant.size) c.turn-x.ensures c.requires.1 c.loop-k-test.true in
    omega arith

pub overflow_add-i : goal.overflow_add-i
overflow_add-i c =
    let i = is_place c.loop-k.k c.falls-down.result (lent_as c.requires.0 c.loop-k.invariant.size) c.turn-x.ensures c.requires.1 c.loop-k-test.true in
    omega arith

pub offset_bounds-places-i : goal.offset_bounds-places-i
offset_bounds-places-i c =
    let i = is_place c.loop-k.k c.falls-down.result (lent_as c.requires.0 c.loop-k.invariant.size) c.turn-x.ensures c.requires.1 c.loop-k-test.true in
    omega arith

pub bounds-places-i : goal.bounds-places-i
bounds-places-i c =
    let i = is_place c.loop-k.k c.falls-down.result (lent_as c.requires.0 c.loop-k.invariant.size) c.turn-x.ensures c.requires.1 c.loop-k-test.true in
    omega arith

pub loop-k-preserved : goal.loop-k-preserved
loop-k-preserved c =
    let a = c.args in
    let falls = c.falls-down in
    shift_step a.r a.b a.slot falls.result a.places.now c.requires.0 falls.ensures c.loop-k.invariant (omega (arith, c.loop-k-test.true, c.requires.1)) (its_cell c.loop-k.k falls.result c.turn-x.ensures c.requires.1) c.arriving-v.ensures

pub returns : goal.returns
returns c =
    let a = c.args in
    shift_end a.r a.b a.slot c.falls-down.result a.places.now c.loop-k.invariant (omega arith)
