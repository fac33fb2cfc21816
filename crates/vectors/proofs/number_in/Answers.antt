-- `vectors::number_in` meets its contract. Assumes nothing.
use mathlib.Core.Path.{sym, ap, ◌∙◌, subst}
use Rattle.geometry.specs.Frame.{InFrame}
use Rattle.geometry.specs.Raster.{raster_number}
use Rattle.geometry.proofs.MacroLaws.{element_in_frame}
use Rattle.vectors.specs.Vectors.{number_in}
use Rattle.vectors.proofs.number_in.Goals as goal

pub raster_number-requires : goal.raster_number-requires
raster_number-requires c = (c.requires.0, c.requires.1, subst (InFrame c.args.format c.args.w c.args.h) (sym c.block_of_macro-b.ensures) (element_in_frame c.args.format c.args.w c.args.h c.args.q.x c.args.q.y c.args.k c.requires.2 c.requires.3 c.requires.4))

pub returns : goal.returns
unfolding number_in
returns c = (c.raster_number.ensures.0 ∙ ap (raster_number c.args.format c.args.w c.args.h) c.block_of_macro-b.ensures, c.raster_number.ensures.1)
