-- `motion_reader::four_vector` meets its contract. Assumes nothing.
use mathlib.Core.Path.{◌∙◌}
use Rattle.motion_reader.proofs.Motions.{four_luma, four_chroma}
use Rattle.motion_reader.proofs.four_vector.Goals as goal

pub returns-then-k-lt4 : goal.returns-then-k-lt4
returns-then-k-lt4 c = c.luma_vector.ensures ∙ four_luma c.args.l c.args.u c.args.format c.args.k c.if-k-lt4.true

pub returns : goal.returns
returns c = c.chroma_vector.ensures ∙ four_chroma c.args.l c.args.u c.args.format c.args.k c.if-k-lt4.false
