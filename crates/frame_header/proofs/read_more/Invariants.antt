-- `frame_header::read_more` meets its contract. The invariant: the list from the start is the list so far and what may follow. Assumes nothing.
use Prim.Native.Nat.{◌-◌}
use Rattle.frame_header.proofs.Facts.{Listed}
use Rattle.frame_header.proofs.read_more.Given as goal

abbrev pub invariant-loop-count : goal.invariant-loop-count
invariant-loop-count l = Listed l.packet l.at l.first l.qis l.count l.place

abbrev pub decreases-loop-count : goal.decreases-loop-count
decreases-loop-count l = 3 - l.count
