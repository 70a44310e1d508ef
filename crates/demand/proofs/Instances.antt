-- A job in the words of the interface: its array as a machine, its loop nest as a nest.
use mathlib.Core.Bool.{true}
use mathlib.Core.List.{List}
use Rattle.std.specs.Prelude.{None, Some}
use Prim.Native.Nat.{ℕ, ◌<◌}
use Rattle.space.specs.Boxes.{back_of, given}
use Rattle.job.specs.declared.record.Job.{Job}
use Rattle.verdict.specs.Mapping.{hop, w}
use Rattle.job.specs.Record.{points}
use Rattle.tables.specs.Tables.{entry_for, previous}
use Rattle.cell.specs.Cells.{work}
use Rattle.verdict.specs.Extents.{rectangle, cells}
use Rattle.frame.specs.Frames.{tick_of, cell_of}
use Rattle.array.specs.Ticks.{point_at}
use Rattle.demand.proofs.Machine.{Machine, Nest}

-- the array of a job: streams, cells and points by their numbers; every point sends, and inputs are fed at the points
abbrev pub machine : Job → List ℕ → Machine ℕ ℕ ℕ ℕ
machine j input =
    record {
      delay = w j;
      back = λ s x. back_of (rectangle j) (hop j s) x;
      at = point_at j;
      enter = λ s t x. None;
      own = λ s k. given (previous j s k) (Some (entry_for j input s k)) (λ q. None);
      sends = λ s k. true;
      work = λ k f s. work j s f;
      rest = 0;
    }

-- its loop nest
abbrev pub nest : Job → List ℕ → Nest ℕ ℕ ℕ ℕ
nest j input =
    record {
      Stream = λ s. s < j.m;
      Cell = λ x. x < cells j;
      Point = λ k. k < points j;
      tick = tick_of j;
      cell = cell_of j;
      previous = previous j;
      input = entry_for j input;
    }
