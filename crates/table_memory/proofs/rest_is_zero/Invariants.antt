-- `table_memory::rest_is_zero` meets its contract. The invariant: what `rest` says of the bits so far, and of all. Assumes nothing.
use Prim.Native.Nat.{◌-◌, ◌/◌, ◌≤◌, ◌<◌}
use native.Mathlib.Omega.{arith}
use lib.ListN.{length}
use Rattle.table_memory.proofs.Steps.{rest_none, part_pos, part_not, Swept, swept_start, swept_more, swept_all}
use borrow.Author.Rules.{rules}
use Rattle.table_memory.proofs.rest_is_zero.Given as goal

abbrev pub invariant-loop-k : goal.invariant-loop-k
invariant-loop-k l = (l.end / 8 < l.k) × (l.k ≤ length l.table) × Swept l.table l.end l.rest l.k

abbrev pub decreases-loop-k : goal.decreases-loop-k
decreases-loop-k l = length l.table - l.k
