-- `block_positions::count_unfinished` meets its contract. The invariant: what was counted and what is left are all. Assumes nothing.
use borrow.Author.Rules.{rules}
use Prim.Native.Nat.{◌+◌, ◌-◌, ◌≤◌}
use native.Mathlib.Omega.{arith}
use mathlib.Core.Path.{◌≡◌}
use lib.ListN.{length, drop, get_or}
use mathlib.Core.List.{[], ◌∷◌}
use Rattle.block_positions.specs.Positions.{unfinished}
use Rattle.block_positions.proofs.Unfinished.{unfinished_next, unfinished_none, unfinished_most}
use Rattle.block_positions.proofs.count_unfinished.Given as goal

abbrev pub invariant-loop-b : goal.invariant-loop-b
invariant-loop-b l = (l.b ≤ length l.positions) × (l.n ≤ l.b) × (l.n + unfinished (drop l.b l.positions) ≡ unfinished l.positions)

abbrev pub decreases-loop-b : goal.decreases-loop-b
decreases-loop-b l = length l.positions - l.b
