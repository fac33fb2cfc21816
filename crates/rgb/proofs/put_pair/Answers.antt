-- `rgb::put_pair` meets its contract. Assumes nothing.
use Rattle.rgb.proofs.Facts.{pair_more}
use Rattle.rgb.proofs.put_pair.Goals as goal

pub returns : goal.returns
returns c = pair_more c.args.luma.now c.args.cb.now c.args.cr.now c.args.k c.args.out.now _ _ c.requires.n_bound.3 c.put_pixel.ensures c.put_pixel-2.ensures
