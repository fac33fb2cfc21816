-- `code_walk::walk` meets its contract. The invariant: the entry from the start is the entry below the tree that is left at the node. Assumes nothing.
use Prim.Native.Nat.{◌-◌, ◌<◌}
use mathlib.Core.Path.{◌≡◌}
use lib.ListN.{length, get_or}
use Rattle.code_walk.proofs.Walks.{Below}
use Rattle.code_walk.proofs.walk.Given as goal

abbrev pub invariant-loop-value : goal.invariant-loop-value
invariant-loop-value l = (l.value ≡ get_or l.nodes l.node 0) × (l.node < 64) × (length l.nodes ≡ 64) × Below l.nodes l.values l.window l.from l.node l.taken

abbrev pub decreases-loop-value : goal.decreases-loop-value
decreases-loop-value l = length l.nodes - l.node
