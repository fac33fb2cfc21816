-- `huffman::fill_from` meets its contract. Assumes nothing.
use Prim.Native.Nat.{◌-◌, ◌≤◌}
use mathlib.Core.Path.{◌≡◌}
use lib.ListN.{length}
use Rattle.huffman.proofs.Grows.{filled}
use Rattle.huffman.proofs.fill_from.Given as goal

abbrev pub invariant-loop-i : goal.invariant-loop-i
invariant-loop-i l = (l.i ≤ length l.initial.nodes) × (length l.nodes ≡ length l.initial.nodes) × (l.nodes ≡ filled l.initial.nodes l.from l.i)

abbrev pub decreases-loop-i : goal.decreases-loop-i
decreases-loop-i l = length l.initial.nodes - l.i
