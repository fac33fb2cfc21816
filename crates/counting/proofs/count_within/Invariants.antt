-- `counting::count_within` meets its contract. The invariant: those found so far, and those of the rest, are all. Assumes nothing.
use Prim.Native.Nat.{◌+◌, ◌-◌, ◌≤◌}
use mathlib.Core.Path.{◌≡◌}
use lib.ListN.{length, drop}
use Rattle.counting.specs.Counts.{count_within}
use Rattle.counting.proofs.count_within.Given as goal

abbrev pub invariant-loop-i : goal.invariant-loop-i
invariant-loop-i l = (l.i ≤ length l.numbers) × (l.found ≤ l.i) × (l.found + count_within l.low l.high (drop l.i l.numbers) ≡ count_within l.low l.high l.numbers)

abbrev pub decreases-loop-i : goal.decreases-loop-i
decreases-loop-i l = length l.numbers - l.i
