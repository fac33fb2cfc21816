-- `play::read_full` meets its contract: so far no more is read than the buffer holds. Assumes nothing.
use Rattle.std.proofs.Common.{◌≤◌, length}
use Rattle.play.proofs.read_full.Given as goal

abbrev pub invariant-loop : goal.invariant-loop
invariant-loop g l = l.done ≤ length l.buffer
