-- `geometry::plane_of` meets its contract. Assumes nothing.
use Rattle.geometry.proofs.SizeLaws.{luma_plane, cb_plane, cr_plane}
use Rattle.geometry.proofs.plane_of.Goals as goal

pub returns-then-p-eq0 : goal.returns-then-p-eq0
returns-then-p-eq0 c = luma_plane c.args.format c.args.w c.args.h c.args.p c.if-p-eq0.true

pub returns-then-p-eq1 : goal.returns-then-p-eq1
returns-then-p-eq1 c = cb_plane c.args.format c.args.w c.args.h c.chroma_across-a.result c.chroma_up-b.result c.chroma_across-a.ensures.0 c.chroma_up-b.ensures.0 c.args.p c.if-p-eq1.true

pub returns : goal.returns
returns c = cr_plane c.args.format c.args.w c.args.h c.chroma_across-a.result c.chroma_up-b.result c.chroma_across-a.ensures.0 c.chroma_up-b.ensures.0 c.args.p c.requires.2
    c.if-p-eq0.false c.if-p-eq1.false
