-- `block_qi::count_at` meets its contract. The invariant: those so far, and those of the rest, are all. Assumes nothing.
use Prim.Native.Nat.{◌+◌, ◌-◌, ◌≤◌}
use mathlib.Core.Path.{◌≡◌}
use lib.ListN.{length, drop}
use Rattle.block_record.specs.Memory.{records_of}
use Rattle.block_qi.specs.BlockQi.{at_step}
use Rattle.block_qi.proofs.count_at.Given as goal

abbrev pub invariant-loop-i : goal.invariant-loop-i
invariant-loop-i l = (l.i ≤ length l.coded) × (l.n ≤ l.i) × (l.n + at_step l.q (drop l.i l.coded) (records_of l.records) ≡ at_step l.q l.coded (records_of l.records))

abbrev pub decreases-loop-i : goal.decreases-loop-i
decreases-loop-i l = length l.coded - l.i
