-- `counting::count_blocks` meets its contract. Assumes nothing.
use Prim.Native.Nat.{◌/◌}
use Rattle.counting.proofs.Planes.{Three, three, three_fit, three_counts}
use Rattle.counting.proofs.count_blocks.Goals as goal

pub overflow_sub-first_rest : goal.overflow_sub-first_rest
overflow_sub-first_rest c =
    let counted : Three c.args.format c.args.w c.args.h c.args.coded.now (c.sizes-sizes.result.cb.offset / 64) (c.sizes-sizes.result.cr.offset / 64) c.sizes-sizes.result.blocks c.count_within-first.result c.count_within-second.result c.count_within-third.result =
    three c.args.format c.args.w c.args.h c.args.coded.now c.sizes-sizes.result c.sizes-sizes.ensures c.count_within-first.ensures c.count_within-second.ensures c.count_within-third.ensures in
    (three_fit c.args.format c.args.w c.args.h c.args.coded.now (counted) c.requires.2).0

pub overflow_sub-second_rest : goal.overflow_sub-second_rest
overflow_sub-second_rest c =
    let counted : Three c.args.format c.args.w c.args.h c.args.coded.now (c.sizes-sizes.result.cb.offset / 64) (c.sizes-sizes.result.cr.offset / 64) c.sizes-sizes.result.blocks c.count_within-first.result c.count_within-second.result c.count_within-third.result =
    three c.args.format c.args.w c.args.h c.args.coded.now c.sizes-sizes.result c.sizes-sizes.ensures c.count_within-first.ensures c.count_within-second.ensures c.count_within-third.ensures in
    (three_fit c.args.format c.args.w c.args.h c.args.coded.now (counted) c.requires.2).1

pub overflow_sub-second_rest-2 : goal.overflow_sub-second_rest-2
overflow_sub-second_rest-2 c =
    let counted : Three c.args.format c.args.w c.args.h c.args.coded.now (c.sizes-sizes.result.cb.offset / 64) (c.sizes-sizes.result.cr.offset / 64) c.sizes-sizes.result.blocks c.count_within-first.result c.count_within-second.result c.count_within-third.result =
    three c.args.format c.args.w c.args.h c.args.coded.now c.sizes-sizes.result c.sizes-sizes.ensures c.count_within-first.ensures c.count_within-second.ensures c.count_within-third.ensures in
    (three_fit c.args.format c.args.w c.args.h c.args.coded.now (counted) c.requires.2).2

pub overflow_sub-third_rest : goal.overflow_sub-third_rest
overflow_sub-third_rest c =
    let counted : Three c.args.format c.args.w c.args.h c.args.coded.now (c.sizes-sizes.result.cb.offset / 64) (c.sizes-sizes.result.cr.offset / 64) c.sizes-sizes.result.blocks c.count_within-first.result c.count_within-second.result c.count_within-third.result =
    three c.args.format c.args.w c.args.h c.args.coded.now c.sizes-sizes.result c.sizes-sizes.ensures c.count_within-first.ensures c.count_within-second.ensures c.count_within-third.ensures in
    (three_fit c.args.format c.args.w c.args.h c.args.coded.now (counted) c.requires.2).3

pub overflow_sub-third_rest-2 : goal.overflow_sub-third_rest-2
overflow_sub-third_rest-2 c =
    let counted : Three c.args.format c.args.w c.args.h c.args.coded.now (c.sizes-sizes.result.cb.offset / 64) (c.sizes-sizes.result.cr.offset / 64) c.sizes-sizes.result.blocks c.count_within-first.result c.count_within-second.result c.count_within-third.result =
    three c.args.format c.args.w c.args.h c.args.coded.now c.sizes-sizes.result c.sizes-sizes.ensures c.count_within-first.ensures c.count_within-second.ensures c.count_within-third.ensures in
    (three_fit c.args.format c.args.w c.args.h c.args.coded.now (counted) c.requires.2).4

pub returns : goal.returns
returns c =
    let counted : Three c.args.format c.args.w c.args.h c.args.coded.now (c.sizes-sizes.result.cb.offset / 64) (c.sizes-sizes.result.cr.offset / 64) c.sizes-sizes.result.blocks c.count_within-first.result c.count_within-second.result c.count_within-third.result =
    three c.args.format c.args.w c.args.h c.args.coded.now c.sizes-sizes.result c.sizes-sizes.ensures c.count_within-first.ensures c.count_within-second.ensures c.count_within-third.ensures in
    three_counts c.args.format c.args.w c.args.h c.args.coded.now (counted) _
