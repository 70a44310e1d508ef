-- The line of the job that was read, or that of the reader's refusal.
use mathlib.Core.Path.{refl, ap}
use mathlib.Core.Logic.{inl, inr}
use Rattle.line.specs.Lines.{line_of}
use Rattle.calls.proofs.line_of_bytes.Goals as goal

pub judged-requires : goal.judged-requires
judged-requires c = c.in-Ok.ensures.0

pub returns-in-Ok : goal.returns-in-Ok
returns-in-Ok c =
    record {
      writes = (_, inr (_, c.in-Ok.ensures, (_, c.judged.ensures, refl)), c.write_line.ensures.writes);
      inside = c.write_line.ensures.inside;
    }

pub returns-in-Err : goal.returns-in-Err
returns-in-Err c =
    record {
      writes = (_, inl (_, c.in-Err.ensures, ap (line_of 0) c.from.ensures), c.write_line-in-Err.ensures.writes);
      inside = c.write_line-in-Err.ensures.inside;
    }
