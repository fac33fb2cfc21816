-- `tile_map::write_tile_row` meets its contract. The loop's invariant: what r rows say. Assumes nothing.
use Rattle.std.proofs.Common.{◌≡◌}
use Rattle.tile_map.specs.Tiles.{strip_map}
use Rattle.tile_map.proofs.write_tile_row.Given as goal

abbrev pub invariant-loop-r : goal.invariant-loop-r
invariant-loop-r l = l.map ≡ strip_map l.from l.row l.r l.tile l.previous l.new
