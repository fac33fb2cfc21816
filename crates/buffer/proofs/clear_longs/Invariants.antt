-- `buffer::clear_longs` meets its contract. The loop's invariant: the first i are 0. Assumes nothing.
use mathlib.Core.Path.{◌≡◌}
use Prim.Native.Nat.{◌-◌, ◌≤◌}
use lib.ListN.{length}
use Rattle.buffer.proofs.Laws.{cleared}
use Rattle.buffer.proofs.clear_longs.Given as goal

abbrev pub invariant-loop-i : goal.invariant-loop-i
invariant-loop-i l = (l.i ≤ l.count) × (length l.slice ≡ length l.initial.slice) × (l.slice ≡ cleared 0 l.i l.initial.slice)

abbrev pub decreases-loop-i : goal.decreases-loop-i
decreases-loop-i l = l.count - l.i
