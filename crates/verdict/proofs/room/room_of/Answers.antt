-- The room count in the verdict on the record.
use Rattle.verdict.proofs.room.room_of.Goals as goal

pub returns : goal.returns
returns c = (c.verdict_of.result, c.verdict_of.ensures, c.room_in.ensures)
