-- `geometry::macro_block_number` meets its contract. Assumes nothing.
use Rattle.geometry.proofs.LumaMacros.{macro_number_by}
use Rattle.geometry.proofs.macro_block_number.Goals as goal

pub returns : goal.returns
returns c = macro_number_by c.args.w c.args.h c.args.x c.args.y c.place_number.result c.place_number.ensures.0 c.place_number.ensures.1
