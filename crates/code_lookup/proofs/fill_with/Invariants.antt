-- `code_lookup::fill_with` meets its contract. Assumes nothing.
use Prim.Native.Nat.{◌-◌, ◌≤◌}
use mathlib.Core.Path.{◌≡◌}
use lib.ListN.{length, take, replicate}
use Rattle.code_lookup.proofs.fill_with.Given as goal

abbrev pub invariant-loop-i : goal.invariant-loop-i
invariant-loop-i l = (l.i ≤ length l.initial.lookup) × (length l.lookup ≡ length l.initial.lookup) × (take l.i l.lookup ≡ replicate l.i l.entry)

abbrev pub decreases-loop-i : goal.decreases-loop-i
decreases-loop-i l = length l.initial.lookup - l.i
