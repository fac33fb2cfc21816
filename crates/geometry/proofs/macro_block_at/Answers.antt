-- `geometry::macro_block_at` meets its contract. Assumes nothing.
use Rattle.geometry.proofs.LumaMacros.{macro_at_by}
use Rattle.geometry.proofs.macro_block_at.Goals as goal

pub returns : goal.returns
returns c = macro_at_by c.args.w c.args.h c.args.i c.place_at-p.result c.requires.0 c.place_at-p.ensures
