-- `vectors::start_records` meets its contract. The invariant: the first i have started. Assumes nothing.
use mathlib.Core.Path.{◌≡◌}
use Prim.Native.Nat.{◌-◌, ◌≤◌}
use lib.ListN.{length}
use Rattle.vectors.proofs.Start.{started_to}
use Rattle.vectors.proofs.start_records.Given as goal

abbrev pub invariant-loop-i : goal.invariant-loop-i
invariant-loop-i l = (l.i ≤ length l.initial.records) × (length l.records ≡ length l.initial.records) × (l.records ≡ started_to l.i l.initial.records)

abbrev pub decreases-loop-i : goal.decreases-loop-i
decreases-loop-i l = length l.initial.records - l.i
