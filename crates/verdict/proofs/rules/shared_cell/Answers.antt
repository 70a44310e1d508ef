-- The first difference, from the least point that it leads from.
use Rattle.std.proofs.Common.{arith, sym, subst}
use Rattle.space.specs.Vectors.{entries}
use Rattle.space.proofs.VectorLaws.{sized_up}
use Rattle.space.proofs.PairLaws.{apart_sized}
use Rattle.job.proofs.Accepting.{low_sized, high_sized, in_box_sized}
use Rattle.verdict.specs.Rules.{SameCell}
use Rattle.verdict.specs.Verdicts.{FirstPair}
use Rattle.verdict.proofs.FirstPairs.{cell_by_gap, no_pair_there, first_pair}
use Rattle.verdict.proofs.rules.shared_cell.Goals as goal

pub returns-in_err-y : goal.returns-in_err-y
returns-in_err-y c = rw c.from_residual.ensures (no_pair_there (cell_by_gap c.args.j) (rw c.in_err-y.was at c.cell_gap.ensures))

pub least_start-p-requires : goal.least_start-p-requires
least_start-p-requires c =
    let j = c.args.j in
    let low = low_sized j c.requires in
    let high = high_sized j c.requires in
    let w = rw c.in_ok-y.was at c.cell_gap.ensures in
    ((low, high), apart_sized j.bounds _ low high w.1, w.1)

-- the points are as small as the box, and the difference is twice that
pub plus-q-requires : goal.plus-q-requires
plus-q-requires c =
    let j = c.args.j in
    let a = c.requires in
    let w = rw c.in_ok-y.was at c.cell_gap.ensures in
    (sized_up (omega arith) (in_box_sized j a c.least_start-p.ensures.here.0), sized_up (omega arith) (apart_sized j.bounds _ (low_sized j a) (high_sized j a) w.1))

pub returns : goal.returns
returns c =
    let j = c.args.j in
    let w = rw c.in_ok-y.was at c.cell_gap.ensures in
    let p = c.least_start-p.ensures in
    subst (FirstPair (SameCell j) (entries c.least_start-p.result)) (sym c.plus-q.ensures)
    (first_pair (cell_by_gap j) _ _ w.0 w.1 w.2 w.3 p.here.0 p.here.1 p.least)
