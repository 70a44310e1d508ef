-- A buffer that is long enough holds every line; the line is its first word and number, what is said past them, and the newline.
use mathlib.Core.Path.{refl}
use native.Mathlib.Omega.{arith}
use Rattle.buffer.proofs.Putting.{put_as, fits_as}
use Rattle.line.proofs.Whole.{line_as, line_room, line_written, line_inside}
use Rattle.line.proofs.write.write_line.Goals as goal

pub returns-then-out-lt-LONGEST : goal.returns-then-out-lt-LONGEST
returns-then-out-lt-LONGEST c = let h = c.if-out-lt-LONGEST.true in record {
  writes = record { written = λ long. absurd (omega arith); short = λ short. (refl, refl) };
  inside = omega arith;
}

pub put_line-requires : goal.put_line-requires
put_line-requires c =
    let a = c.args in
    fits_as (line_as a.n a.v c.lead_of.ensures c.first_of.ensures) (line_room a.n a.v c.if-out-lt-LONGEST.false)

pub returns : goal.returns
returns c =
    let a = c.args in
    let line = put_as (line_as a.n a.v c.lead_of.ensures c.first_of.ensures) c.put_line.ensures in
    record {
      writes = line_written a.n a.v c.if-out-lt-LONGEST.false line;
      inside = line_inside a.n a.v c.if-out-lt-LONGEST.false line;
    }
