-- `tree_pairs::push` meets its contract. The loop's invariant: k entries are pushed. Assumes nothing.
use Prim.Native.Nat.{◌-◌, ◌≤◌}
use mathlib.Core.Path.{◌≡◌}
use lib.ListN.{length}
use Rattle.tree_pairs.specs.Pair.{Pushed}
use Rattle.tree_pairs.proofs.push.Given as goal

abbrev pub invariant-loop-k : goal.invariant-loop-k
invariant-loop-k l = (l.k ≤ 8) × (length l.stack ≡ length l.initial.stack) × Pushed l.initial.stack l.stack l.depth l.k l.twice

abbrev pub decreases-loop-k : goal.decreases-loop-k
decreases-loop-k l = 8 - l.k
