-- `tile_map::write_tiles` meets its contract. The loop's invariant: y strips are written. Assumes nothing.
use Rattle.std.proofs.Common.{◌≡◌, ◌*◌, take}
use Rattle.geometry.specs.Sizes.{squares as tiles}
use Rattle.geometry.specs.Order.{in_turn}
use Rattle.tile_map.proofs.Planes.{strip_at}
use Rattle.tile_map.proofs.write_tiles.Given as goal

abbrev pub invariant-loop-y : goal.invariant-loop-y
invariant-loop-y l = take (l.y * tiles l.tile l.row) l.map ≡ in_turn (strip_at l.first l.row l.rows l.tile l.previous l.new) l.y
