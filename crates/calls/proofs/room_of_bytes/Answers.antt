-- The room count in the verdict on the bytes.
use Rattle.calls.proofs.room_of_bytes.Goals as goal

pub returns : goal.returns
returns c = (c.verdict_of_bytes.result, c.verdict_of_bytes.ensures, c.room_in.ensures)
