-- `counting::count_modes` meets its contract. The invariant: for each mode, what is counted so far and what is to come is all. Assumes nothing.
use Prim.Native.Nat.{◌-◌, ◌≤◌}
use lib.ListN.{length}
use Rattle.counting.proofs.Laws.{ModesSoFar}
use Rattle.counting.proofs.count_modes.Given as goal

abbrev pub invariant-loop-i : goal.invariant-loop-i
invariant-loop-i l = (l.i ≤ length l.modes) × ModesSoFar l.modes l.counts l.i

abbrev pub decreases-loop-i : goal.decreases-loop-i
decreases-loop-i l = length l.modes - l.i
