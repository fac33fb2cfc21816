use Rattle.std.proofs.Common.{◌+◌, arith}
use Rattle.coded_flags.proofs.Order.{order_length}
use Rattle.super_list.proofs.Listing.{counts_on, goes_next}
use Rattle.super_list.proofs.Whole.{inside, whole_number}
use Rattle.super_list.proofs.list_whole.Goals as goal

pub raster_number-corner-requires : goal.raster_number-corner-requires
raster_number-corner-requires c =
    (c.requires.0, c.requires.1, inside c.args.format c.args.w c.args.h c.args.first (omega arith) _ c.block_at-b.ensures)

pub plane_of-across-requires : goal.plane_of-across-requires
plane_of-across-requires c =
    (c.requires.0, c.requires.1, (inside c.args.format c.args.w c.args.h c.args.first (omega arith) _ c.block_at-b.ensures).of_three)

pub overflow_mul-n : goal.overflow_mul-n
overflow_mul-n c =
    omega (
      arith,
      whole_number c.args.format c.args.w c.args.h c.args.first c.requires.7 c.requires.6
          _ c.block_at-b.ensures _ c.raster_number-corner.ensures.0 _ c.plane_of-across.ensures _ c.loop-j.j c.loop-j-test.true c.from-place.ensures,
    )

pub overflow_add-n : goal.overflow_add-n
overflow_add-n c =
    omega (
      arith,
      whole_number c.args.format c.args.w c.args.h c.args.first c.requires.7 c.requires.6
          _ c.block_at-b.ensures _ c.raster_number-corner.ensures.0 _ c.plane_of-across.ensures _ c.loop-j.j c.loop-j-test.true c.from-place.ensures,
    )

pub overflow_add-n-in-loop-j : goal.overflow_add-n-in-loop-j
overflow_add-n-in-loop-j c =
    omega (
      arith,
      whole_number c.args.format c.args.w c.args.h c.args.first c.requires.7 c.requires.6
          _ c.block_at-b.ensures _ c.raster_number-corner.ensures.0 _ c.plane_of-across.ensures _ c.loop-j.j c.loop-j-test.true c.from-place.ensures,
    )

pub list_number-count-requires : goal.list_number-count-requires
list_number-count-requires c =
    let n = whole_number c.args.format c.args.w c.args.h c.args.first c.requires.7 c.requires.6
    _ c.block_at-b.ensures _ c.raster_number-corner.ensures.0 _ c.plane_of-across.ensures _ c.loop-j.j c.loop-j-test.true c.from-place.ensures in
    (omega (arith, n.1), omega arith)

pub loop-j-preserved : goal.loop-j-preserved
loop-j-preserved c =
    let n = whole_number c.args.format c.args.w c.args.h c.args.first c.requires.7 c.requires.6
    _ c.block_at-b.ensures _ c.raster_number-corner.ensures.0 _ c.plane_of-across.ensures _ c.loop-j.j c.loop-j-test.true c.from-place.ensures in
    let long = order_length c.args.format c.args.w c.args.h in (
      omega (arith, counts_on _ _ c.loop-j.count _ (c.args.first + c.loop-j.j) c.loop-j.invariant.0 c.list_number-count.ensures.value),
      goes_next _ _ _ _ _ _ c.loop-j.records c.loop-j.coded c.loop-j.count (c.args.first + c.loop-j.j) _ _ c.loop-j.invariant.1 (omega arith) (omega arith) (omega arith) n.0 (omega arith)
          _ _ _ c.list_number-count.ensures.value c.list_number-count.ensures.records_after c.list_number-count.ensures.coded_after,
    )
