-- `stored_trees::load_tree` meets its contract: what is left at each node comes to the same as all from the start (proofs/Loads). Assumes nothing.
use Prim.Native.Nat.{◌+◌, ◌-◌, ◌*◌, ◌/◌, ◌≤◌}
use mathlib.Core.Path.{◌≡◌}
use Rattle.stored_trees.proofs.Loads.{Head, State}
use Rattle.stored_trees.proofs.load_tree.Given as goal

-- at the forks before a leaf, and at each leaf, where `from` is the place less the nodes at the next filling
abbrev pub invariant-loop-window : goal.invariant-loop-window
invariant-loop-window l = (l.initial.index ≤ l.index) × State l.packet l.at l.window l.index l.leaves l.«open» l.nodes

abbrev pub decreases-loop-window : goal.decreases-loop-window
decreases-loop-window l = 64 - l.index

abbrev pub invariant-loop-leaves : goal.invariant-loop-leaves
invariant-loop-leaves l = (l.from ≡ l.at + (l.leaves + 3) / 4 * 20) × Head l.packet l.at l.window l.index l.leaves l.«open» l.nodes

abbrev pub decreases-loop-leaves : goal.decreases-loop-leaves
decreases-loop-leaves l = 64 - l.index
