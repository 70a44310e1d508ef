-- What has been read lies in the buffer.
use Rattle.std.proofs.Common.{◌≤◌, length}
use Rattle.checker.proofs.read_full.Given as goal

abbrev pub invariant-loop : goal.invariant-loop
invariant-loop g l = l.got ≤ length l.into
