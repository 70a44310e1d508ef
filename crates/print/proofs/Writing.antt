-- A line writer that puts bytes puts them into its buffer, and one put after the other is one put.
use mathlib.Core.Path.{◌≡◌, ap}
use mathlib.Core.List.{List}
use Prim.Native.Nat.{ℕ}
use Rattle.buffer.specs.Put.{Put}
use Rattle.print.specs.LineWriter.{wrote}
use Rattle.print.specs.declared.line_writer.Line.{Line}

pub put_by : {l m : Line} (bs : List ℕ) → m ≡ wrote l bs → Put l.out.now l.at bs m.at m.out.now
put_by {l} bs e = record { next = ap (λ (k : Line). k.at) e; all = ap (λ (k : Line). k.out.now) e }
