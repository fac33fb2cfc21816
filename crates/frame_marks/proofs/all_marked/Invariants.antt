-- `frame_marks::all_marked` meets its contract. The loop's invariant: the first k frames are marked. Assumes nothing.
use Prim.Native.Nat.{◌+◌, ◌*◌, ◌-◌, ◌≤◌}
use mathlib.Core.Path.{◌≡◌}
use mathlib.Core.Bool.{true}
use lib.ListN.{drop}
use Rattle.frame_marks.specs.Marks.{marked}
use Rattle.frame_marks.proofs.all_marked.Given as goal

abbrev pub invariant-loop-k : goal.invariant-loop-k
invariant-loop-k l = (l.k ≤ l.count) × (l.place ≡ l.at + l.k * (6 + l.size)) × (marked (6 + l.size) (drop l.at l.stream) l.k ≡ true)

abbrev pub decreases-loop-k : goal.decreases-loop-k
decreases-loop-k l = l.count - l.k
