-- `buffer::copy_longs` meets its contract. The loop's invariant: the first k numbers are src's.
-- Assumes nothing.
use mathlib.Core.Path.{◌≡◌}
use Prim.Native.Nat.{◌-◌, ◌≤◌}
use lib.ListN.{length, take}
use Rattle.buffer.proofs.copy_longs.Given as goal

abbrev pub invariant-loop-k : goal.invariant-loop-k
invariant-loop-k l = (l.k ≤ length l.src) × (length l.dst ≡ length l.initial.dst) × (take l.k l.dst ≡ take l.k l.src)

abbrev pub decreases-loop-k : goal.decreases-loop-k
decreases-loop-k l = length l.src - l.k
