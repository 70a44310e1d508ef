-- Column k is worked for the first s streams.
use Rattle.tables.specs.Columns.{Column}
use Rattle.tables.proofs.table.put_column.Given as goal

abbrev pub invariant-loop-s : goal.invariant-loop-s
invariant-loop-s l = Column l.j l.k l.got l.initial.values l.s l.values
