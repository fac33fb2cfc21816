-- `tokens::keep_unfinished` meets its contract. The invariant: what is kept, and the unfinished ones of those still to be seen, are all unfinished ones. Assumes nothing.
use Prim.Native.Nat.{◌-◌, ◌≤◌}
use mathlib.Core.Path.{◌≡◌}
use mathlib.Core.List.{◌++◌}
use lib.ListN.{length, take, drop}
use Rattle.tokens.specs.Answer.{unfinished_of}
use Rattle.tokens.proofs.keep_unfinished.Given as goal

abbrev pub invariant-loop-j : goal.invariant-loop-j
invariant-loop-j l = (l.j ≤ length l.blocks) × (l.kept ≤ l.j) × (length l.blocks ≡ length l.initial.blocks) × (drop l.j l.blocks ≡ drop l.j l.initial.blocks) × (unfinished_of l.positions l.initial.blocks ≡ take l.kept l.blocks ++ unfinished_of l.positions (drop l.j l.blocks))

abbrev pub decreases-loop-j : goal.decreases-loop-j
decreases-loop-j l = length l.blocks - l.j
