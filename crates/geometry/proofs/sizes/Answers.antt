-- `geometry::sizes` meets its contract. Assumes nothing.
use native.Mathlib.Omega.{arith}
use Rattle.geometry.proofs.SizeLaws.{PlaneSmall, plane_of_small, sizes_by}
use borrow.Author.Rules.{rules}
use Rattle.geometry.proofs.sizes.Goals as goal

pub overflow_add-buffer : goal.overflow_add-buffer
overflow_add-buffer c =
    let small : PlaneSmall c.plane_of-luma.result × PlaneSmall c.plane_of-cb.result × PlaneSmall c.plane_of-cr.result = (
      plane_of_small c.args.format c.args.w c.args.h c.requires.0 c.requires.1 c.plane_of-luma.result 0 (omega arith) c.plane_of-luma.ensures,
      plane_of_small c.args.format c.args.w c.args.h c.requires.0 c.requires.1 c.plane_of-cb.result 1 (omega arith) c.plane_of-cb.ensures,
      plane_of_small c.args.format c.args.w c.args.h c.requires.0 c.requires.1 c.plane_of-cr.result 2 (omega arith) c.plane_of-cr.ensures,
    ) in
    let n = (small).2.buffer in search rules

pub returns : goal.returns
returns c = sizes_by c.args.format c.args.w c.args.h c.plane_of-luma.result c.plane_of-cb.result c.plane_of-cr.result c.super_blocks_in-n.result c.super_blocks_in-m.result c.plane_of-luma.ensures c.plane_of-cb.ensures c.plane_of-cr.ensures c.super_blocks_in-n.ensures.0 c.super_blocks_in-m.ensures.0
