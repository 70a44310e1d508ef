-- What a line writer is once bytes are put.
use Rattle.std.specs.Prelude.{ℕ, ◌+◌, List, length}
use denote.Ref.{at_last}
use Rattle.buffer.specs.Put.{put_at}
use Rattle.print.specs.declared.line_writer.Line.{Line}

-- the same borrow, with bs at the writer's place, and the next place
abbrev pub wrote : Line → List ℕ → Line
wrote l bs = record { out = at_last l.out (put_at l.out.now l.at bs); at = l.at + length bs }
