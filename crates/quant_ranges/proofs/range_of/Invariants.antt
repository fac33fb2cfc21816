-- `quant_ranges::range_of` meets its contract. The invariant: all ranges so far end before qi. Assumes nothing.
use Prim.Native.Nat.{◌-◌, ◌≤◌, ◌<◌}
use lib.ListN.{take, drop}
use Rattle.quant_ranges.proofs.Ranges.{Walk}
use Rattle.quant_ranges.proofs.range_of.Given as goal

abbrev pub invariant-loop-start : goal.invariant-loop-start
invariant-loop-start l = (l.start ≤ 63) × (l.size < 65536) × Walk (take 64 (drop l.first l.sizes)) l.qi l.number l.start l.size

abbrev pub decreases-loop-start : goal.decreases-loop-start
decreases-loop-start l = 64 - l.number
