-- `tokens::write_ranks` meets its contract. The invariant: the first b are the ranks of b blocks. Assumes nothing.
use Prim.Native.Nat.{◌-◌, ◌≤◌}
use mathlib.Core.Path.{◌≡◌}
use lib.ListN.{length, take}
use Rattle.tokens.specs.Tokens.{ranks}
use Rattle.tokens.proofs.write_ranks.Given as goal

abbrev pub invariant-loop-b : goal.invariant-loop-b
invariant-loop-b l = (l.b ≤ length l.blocks) × (length l.blocks ≡ length l.initial.blocks) × (take l.b l.blocks ≡ ranks 0 l.b)

abbrev pub decreases-loop-b : goal.decreases-loop-b
decreases-loop-b l = length l.blocks - l.b
