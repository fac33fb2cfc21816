-- `block_qi::raise_blocks` meets its contract. The invariant: the records so far, and what is left of the coded blocks and of the bits. Assumes nothing.
use Prim.Native.Nat.{◌-◌}
use mathlib.Core.Path.{◌≡◌}
use lib.ListN.{length}
use Rattle.block_qi.proofs.Steps.{Raising}
use Rattle.block_qi.proofs.raise_blocks.Given as goal

abbrev pub invariant-loop-i : goal.invariant-loop-i
invariant-loop-i l = (length l.records ≡ length l.initial.records) × Raising l.q l.coded l.bits l.initial.records l.records l.i l.j

abbrev pub decreases-loop-i : goal.decreases-loop-i
decreases-loop-i l = length l.coded - l.i
