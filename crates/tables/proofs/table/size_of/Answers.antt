-- The place behind the last stream.
use mathlib.Core.Path.{◌∙◌}
use native.Mathlib.Nat.{add-zero, mul-le-mul}
use native.Mathlib.Omega.{arith}
use Rattle.job.proofs.Accepting.{walkable}
use Rattle.tables.proofs.TableLaws.{few_streams, few_points, place_as}
use Rattle.tables.proofs.table.size_of.Goals as goal

pub count-requires : goal.count-requires
count-requires c = walkable c.requires

pub place_in_table-requires : goal.place_in_table-requires
place_in_table-requires c = (few_streams c.requires, omega (arith, c.count.ensures, few_points c.requires), omega arith)

pub returns : goal.returns
returns c =
    let p = c.requires in
    let e = place_as c.args.j _ 0 c.place_in_table.ensures.is c.count.ensures ∙ add-zero _ in
    record {
      few = omega (arith, e, mul-le-mul (few_streams p) (few_points p));
      is = e;
    }
