-- A stream's new value is written at its place.
use Rattle.std.proofs.Common.{arith}
use Rattle.tables.proofs.TableLaws.{place_as, column_step}
use Rattle.tables.proofs.table.put_column.Goals as goal

pub loop-s-preserved : goal.loop-s-preserved
loop-s-preserved c =
    let a = c.args in
    let l = c.loop-s in
    let at = place_as a.j l.s a.k c.place_in_table.ensures.is c.requires.0.count in
    column_step a.j a.k a.got a.values.now l.values l.s _ _ l.invariant c.loop-s-test.true (omega (arith, c.requires.0.count)) at (rw (c.stream_at-t.ensures, c.from.ensures) at c.new_value.ensures)
