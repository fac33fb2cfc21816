-- `tree_pairs::load_pair` meets its contract. The loop's invariant: both trees are read up to as many leaves, and the windows show what follows, if they are not filled anew (proofs/Pairs). Assumes nothing.
use Prim.Native.Nat.{◌-◌, ◌%◌}
use mathlib.Core.Path.{◌≡◌}
use Rattle.tree_pairs.proofs.Pairs.{Both, Shown}
use Rattle.tree_pairs.proofs.load_pair.Given as goal

abbrev pub invariant-loop-leaves : goal.invariant-loop-leaves
invariant-loop-leaves l = Both l.packet l.at l.leaves l.a l.b l.i l.j l.first l.second l.nodes × ((l.leaves % 4 ≡ 0 → ⊥) → Shown l.packet l.at l.leaves l.a l.b l.i l.j)

abbrev pub decreases-loop-leaves : goal.decreases-loop-leaves
decreases-loop-leaves l = 31 - l.leaves
