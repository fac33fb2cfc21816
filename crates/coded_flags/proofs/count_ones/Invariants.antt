-- `coded_flags::count_ones` meets its contract. The invariant: the 1s so far, and those of the rest, are all. Assumes nothing.
use Prim.Native.Nat.{◌+◌, ◌-◌, ◌≤◌}
use mathlib.Core.Path.{◌≡◌}
use lib.ListN.{length, drop}
use Rattle.coded_flags.specs.Flags.{ones}
use Rattle.coded_flags.proofs.count_ones.Given as goal

abbrev pub invariant-loop-i : goal.invariant-loop-i
invariant-loop-i l = (l.i ≤ length l.bits) × (l.n ≤ l.i) × (l.n + ones (drop l.i l.bits) ≡ ones l.bits)

abbrev pub decreases-loop-i : goal.decreases-loop-i
decreases-loop-i l = length l.bits - l.i
