-- `block_walk::band_from` meets its contract. Assumes nothing.
use Rattle.std.proofs.Common.{arith}
use Rattle.geometry.proofs.SizeLaws.{sizes_small, plane_of_small}
use Rattle.block_walk.proofs.Bands.{in_frame, column_below, in_four, in_plane, from_row}
use Rattle.block_walk.proofs.band_from.Goals as goal

pub plane_of-q-requires : goal.plane_of-q-requires
plane_of-q-requires c = (c.requires.0, c.requires.1, (in_frame c.args.format c.args.w c.args.h c.args.n c.requires.2 c.raster_block-b.result c.raster_block-b.ensures).of_three)

pub overflow_sub-first : goal.overflow_sub-first
overflow_sub-first c = column_below c.args.format c.args.w c.args.h c.args.n c.requires.2 c.raster_block-b.result c.raster_block-b.ensures

pub overflow_add-past : goal.overflow_add-past
overflow_add-past c =
    let placed = in_frame c.args.format c.args.w c.args.h c.args.n c.requires.2 c.raster_block-b.result c.raster_block-b.ensures in
    omega (arith, (plane_of_small c.args.format c.args.w c.args.h c.requires.0 c.requires.1 c.plane_of-q.result c.raster_block-b.result.plane placed.of_three c.plane_of-q.ensures).buffer)

pub overflow_add-end : goal.overflow_add-end
overflow_add-end c =
    let placed = in_frame c.args.format c.args.w c.args.h c.args.n c.requires.2 c.raster_block-b.result c.raster_block-b.ensures in
    omega (
      arith,
      (plane_of_small c.args.format c.args.w c.args.h c.requires.0 c.requires.1 c.plane_of-q.result c.raster_block-b.result.plane placed.of_three c.plane_of-q.ensures).across,
      (sizes_small c.args.format c.args.w c.args.h c.requires.0 c.requires.1).blocks,
    )

pub returns : goal.returns
returns c =
    let four = in_four c.args.format c.args.w c.args.h c.args.n c.requires.2 c.raster_block-b.result c.raster_block-b.ensures c.plane_of-q.result c.plane_of-q.ensures in
    let inside = in_plane c.args.format c.args.w c.args.h c.args.n c.requires.2 c.raster_block-b.result c.raster_block-b.ensures c.plane_of-q.result c.plane_of-q.ensures in
    let end = c.min.ensures in
    from_row c.args.format c.args.w c.args.h c.args.n c.requires.2 c.raster_block-b.result c.raster_block-b.ensures c.plane_of-q.result c.plane_of-q.ensures
    _ (omega (arith, end)) (omega (arith, end)) (omega (arith, end, four, inside))
