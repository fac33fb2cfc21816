-- `tile_map::map_length` meets its contract. Assumes nothing.
use Rattle.tile_map.proofs.Planes.{length_by}
use Rattle.tile_map.proofs.map_length.Goals as goal

pub returns : goal.returns
returns c = length_by c.args.format c.args.w c.args.h c.args.p c.requires.2 c.requires.0 c.requires.1 _ c.plane_of-q.ensures c.args.tile
