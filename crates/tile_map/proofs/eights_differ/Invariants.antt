-- `tile_map::eights_differ` meets its contract. The loop's invariant: what was found among the first i. Assumes nothing.
use Rattle.std.proofs.Common.{◌≡◌, ◌≤◌, ◌-◌, ◌%◌}
use Rattle.tile_map.specs.Tiles.{differ}
use Rattle.tile_map.proofs.eights_differ.Given as goal

abbrev pub invariant-loop-i : goal.invariant-loop-i
invariant-loop-i l = (l.i ≤ l.n) × (l.i % 8 ≡ 0) × (l.found ≡ differ l.previous l.new l.at l.i)

abbrev pub decreases-loop-i : goal.decreases-loop-i
decreases-loop-i l = l.n - l.i
