-- `table_memory::clear` meets its contract. Assumes nothing.
use borrow.Author.Rules.{rules}
use borrow.Author.Fill.{fill_more}
use Prim.Native.Nat.{ℕ, ◌+◌, ◌-◌, ◌≤◌}
use native.Mathlib.Omega.{arith}
use mathlib.Core.Path.{◌≡◌, refl, ap, ◌∙◌}
use mathlib.Core.List.{List, ◌++◌, append-nil}
use lib.ListN.{length, drop, replicate, set, length-set}
use lib.Seq.{drop-length}
use Rattle.table_memory.proofs.clear.Given as goal

abbrev pub invariant-loop-k : goal.invariant-loop-k
invariant-loop-k l = (l.k ≤ length l.initial.table) × (length l.table ≡ length l.initial.table) × (l.table ≡ replicate l.k 0 ++ drop l.k l.initial.table)

abbrev pub decreases-loop-k : goal.decreases-loop-k
decreases-loop-k l = length l.initial.table - l.k
