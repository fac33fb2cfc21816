-- `tile_map::differ` meets its contract. The loop's invariant: what was found among the first i. Assumes nothing.
use Rattle.std.proofs.Common.{◌≡◌}
use Rattle.tile_map.specs.Tiles.{differ}
use Rattle.tile_map.proofs.differ.Given as goal

abbrev pub invariant-loop-i : goal.invariant-loop-i
invariant-loop-i l = l.found ≡ differ l.previous l.new l.at l.i
