-- Three reaches; the cells are the product of two of them.
use mathlib.Core.Path.{refl, sym, ap₂, ◌∙◌}
use Prim.Native.Nat.{◌*◌}
use native.Mathlib.Nat.{le_trans, le_of_eq}
use Rattle.space.specs.Vectors.{entries}
use Rattle.space.specs.Boxes.{side}
use Rattle.space.proofs.Machine.{fits_under, held_as}
use Rattle.space.proofs.VectorLaws.{two}
use Rattle.job.proofs.Accepting.{time_sized, row0_sized, row1_sized, walkable, reachable}
use Rattle.verdict.proofs.SizeLaws.{small_ends, cells_are}
use Rattle.frame.proofs.FrameLaws.{ends_fit}
use Rattle.frame.proofs.RoomLaws.{cells_small}
use Rattle.frame.proofs.frame_of.Goals as goal

pub reach_of-rows-requires : goal.reach_of-rows-requires
reach_of-rows-requires c = reachable c.args.j c.requires.acceptable (row0_sized c.args.j c.requires.acceptable)

pub reach_of-columns-requires : goal.reach_of-columns-requires
reach_of-columns-requires c = reachable c.args.j c.requires.acceptable (row1_sized c.args.j c.requires.acceptable)

pub reach_of-clock-requires : goal.reach_of-clock-requires
reach_of-clock-requires c = reachable c.args.j c.requires.acceptable (time_sized c.args.j c.requires.acceptable)

pub overflow_mul-cells : goal.overflow_mul-cells
overflow_mul-cells c =
    let e = ap₂ ◌*◌ c.reach_of-rows.ensures.count c.reach_of-columns.ensures.count ∙ sym (cells_are c.args.j) in
    fits_under (le_trans (le_of_eq e) (cells_small c.args.j c.requires.acceptable)) tt

pub count-requires : goal.count-requires
count-requires c = walkable c.requires.acceptable

pub bands_of-requires : goal.bands_of-requires
bands_of-requires c =
    (c.requires, ap₂ ◌*◌ c.reach_of-rows.ensures.count c.reach_of-columns.ensures.count ∙ sym (cells_are c.args.j))

pub invariant_of-result : goal.invariant_of-result
invariant_of-result c =
    let j = c.args.j in
    let a = c.requires.acceptable in
    record {
      rows = ends_fit j a (entries j.row0) refl (row0_sized j a) c.reach_of-rows.ensures;
      columns = ends_fit j a (entries j.row1) refl (row1_sized j a) c.reach_of-columns.ensures;
    }

pub returns : goal.returns
returns c =
    let j = c.args.j in
    let a = c.requires.acceptable in
    let rows = c.reach_of-rows.ensures in
    let columns = c.reach_of-columns.ensures in
    let s0 = small_ends j a (entries j.row0) refl (row0_sized j a) in
    let s1 = small_ends j a (entries j.row1) refl (row1_sized j a) in
    let s2 = small_ends j a (entries j.time) refl (time_sized j a) in
    record {
      is = refl;
      framed = record {
        runnable = c.requires;
        points = c.count.ensures;
        start = held_as c.reach_of-clock.ensures.low s2.0 tt;
        cells = ap₂ ◌*◌ rows.count columns.count ∙ sym (cells_are j);
        rectangle = two (ap₂ side (held_as rows.low s0.0 tt) (held_as rows.high s0.1 tt)) (ap₂ side (held_as columns.low s1.0 tt) (held_as columns.high s1.1 tt));
        bands = c.bands_of.ensures;
      };
    }
