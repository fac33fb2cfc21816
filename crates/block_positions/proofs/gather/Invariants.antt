-- `block_positions::gather` meets its contract. The invariant: those of the blocks seen so far that stand at k are in front. Assumes nothing.
use borrow.Author.Rules.{rules}
use Prim.Native.Nat.{ℕ, ◌-◌, ◌≤◌}
use native.Mathlib.Omega.{arith}
use mathlib.Core.Path.{◌≡◌, refl, sym, ap, ◌∙◌}
use mathlib.Core.List.{List}
use lib.ListN.{length, get_or, take, length-set}
use lib.Seq.{take_all}
use Rattle.block_positions.specs.Answer.{due_of}
use Rattle.block_positions.proofs.Due.{due_nil, gathered_on, at_most_one_due}
use Rattle.block_positions.proofs.gather.Given as goal

abbrev pub invariant-loop-j : goal.invariant-loop-j
invariant-loop-j l = (l.j ≤ length l.blocks) × (l.n ≤ l.j) × (length l.due ≡ length l.initial.due) × (take l.n l.due ≡ due_of l.k l.positions (take l.j l.blocks))

abbrev pub decreases-loop-j : goal.decreases-loop-j
decreases-loop-j l = length l.blocks - l.j
