-- `geometry::squares::block_in_corner` meets its contract. Assumes nothing.
use Rattle.geometry.specs.Order.{block_walk}
use Rattle.geometry.proofs.Tables.{block_corner}
use Rattle.geometry.proofs.TableLaws.{corners, block_corners}
use Rattle.geometry.proofs.squares.block_in_corner.Goals as goal

pub returns : goal.returns
unfolding block_corner
returns c = corners 4 block_walk block_corner block_corners c.args.u c.args.v c.args.i c.requires.0 c.requires.1 c.requires.2
