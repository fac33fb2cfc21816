-- `packet_list::lengths_reach` meets its contract: what was taken of the room is what the lengths so far come to. Assumes nothing.
use Rattle.std.proofs.Common.{◌≡◌, ◌+◌, drop}
use Rattle.packet_list.specs.Packets.{total}
use Rattle.packet_list.proofs.lengths_reach.Given as goal

abbrev pub invariant-loop-n : goal.invariant-loop-n
invariant-loop-n l = total l.lengths + l.left ≡ l.room + total (drop l.n-index l.lengths)
