-- `setup_trees::load_each` meets its contract. The invariant: the trees so far lie in the slice, zeros behind them. Assumes nothing.
use Prim.Native.Nat.{◌-◌, ◌≤◌}
use Rattle.bitstream.specs.Bits.{bits}
use Rattle.setup_trees.proofs.Loop.{Trees}
use Rattle.setup_trees.proofs.load_each.Given as goal

abbrev pub invariant-loop-k : goal.invariant-loop-k
invariant-loop-k l = (l.k ≤ l.count) × (l.place ≤ bits l.packet) × Trees l.count l.packet l.at l.place l.k l.nodes

abbrev pub decreases-loop-k : goal.decreases-loop-k
decreases-loop-k l = l.count - l.k
