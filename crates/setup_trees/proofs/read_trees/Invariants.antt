-- `setup_trees::read_trees` meets its contract. The invariant: the trees so far lie in the slice, zeros behind them. Assumes nothing.
use Prim.Native.Nat.{◌-◌, ◌≤◌}
use Rattle.setup_trees.proofs.Loop.{Trees}
use Rattle.setup_trees.proofs.read_trees.Given as goal

abbrev pub invariant-loop-k : goal.invariant-loop-k
invariant-loop-k l = (l.k ≤ 80) × Trees 80 l.packet l.at l.place l.k l.nodes

abbrev pub decreases-loop-k : goal.decreases-loop-k
decreases-loop-k l = 80 - l.k
