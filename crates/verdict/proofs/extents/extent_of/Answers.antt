-- Each reach and the sum of the w are small enough for the products, which are the cells and the room.
use Rattle.std.proofs.Common.{ℕ, ◌≡◌, ◌*◌, ◌≤◌, refl, sym, ap₂, arith, ◌∙◌}
use native.Mathlib.Nat.{mul-le-mul, le_trans, le_of_eq}
use Rattle.space.specs.Vectors.{entries}
use Rattle.space.specs.Boxes.{across, reach}
use Rattle.space.proofs.Machine.{fits_under}
use Rattle.job.specs.declared.record.Job.{Job}
use Rattle.job.specs.Limits.{Acceptable}
use Rattle.job.specs.Record.{box}
use Rattle.job.proofs.Accepting.{time_sized, row0_sized, row1_sized, reachable}
use Rattle.verdict.specs.Mapping.{delays}
use Rattle.verdict.proofs.SizeLaws.{across_small, cells_are, delays_size, reach_limit, delay_limit}
use Rattle.verdict.proofs.extents.extent_of.Goals as goal

pub reach_of-rows-requires : goal.reach_of-rows-requires
reach_of-rows-requires c = reachable c.args.j c.requires.0 (row0_sized c.args.j c.requires.0)

pub reach_of-columns-requires : goal.reach_of-columns-requires
reach_of-columns-requires c = reachable c.args.j c.requires.0 (row1_sized c.args.j c.requires.0)

pub reach_of-clock-requires : goal.reach_of-clock-requires
reach_of-clock-requires c = reachable c.args.j c.requires.0 (time_sized c.args.j c.requires.0)

-- cells are few, and so is the sum of the w
cells_few : (j : Job) → Acceptable j → {r k : ℕ} → r ≡ across (reach (entries j.row0) (box j)) → k ≡ across (reach (entries j.row1) (box j)) → r * k ≤ reach_limit * reach_limit
cells_few j a e f = mul-le-mul (le_trans (le_of_eq e) (across_small j a _ refl (row0_sized j a))) (le_trans (le_of_eq f) (across_small j a _ refl (row1_sized j a)))

delays_few : (j : Job) → Acceptable j → {s : ℕ} → s ≡ delays j j.m → s ≤ 4 * delay_limit
delays_few j a e = omega (arith, a.shaped.streams, delays_size j a j.m (omega arith))

pub overflow_mul-cells : goal.overflow_mul-cells
overflow_mul-cells c = fits_under (cells_few c.args.j c.requires.0 c.reach_of-rows.ensures.count c.reach_of-columns.ensures.count) tt

pub overflow_mul-result : goal.overflow_mul-result
overflow_mul-result c =
    let j = c.args.j in
    let a = c.requires.0 in
    fits_under (mul-le-mul (cells_few j a c.reach_of-rows.ensures.count c.reach_of-columns.ensures.count) (delays_few j a c.all_delays.ensures)) tt

pub returns : goal.returns
returns c =
    let cells = ap₂ ◌*◌ c.reach_of-rows.ensures.count c.reach_of-columns.ensures.count ∙ sym (cells_are c.args.j) in
    record { cells = cells; ticks = c.reach_of-clock.ensures.count; room = ap₂ ◌*◌ cells c.all_delays.ensures }
