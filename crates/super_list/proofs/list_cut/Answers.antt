use Rattle.std.proofs.Common.{arith}
use Rattle.coded_flags.proofs.Order.{order_length}
use Rattle.super_list.proofs.Listing.{goes_on, counts_on}
use Rattle.super_list.proofs.list_cut.Goals as goal

pub loop-i-preserved : goal.loop-i-preserved
loop-i-preserved c =
    let long = order_length c.args.format c.args.w c.args.h in (
      counts_on _ _ c.loop-i.count _ c.loop-i.i c.loop-i.invariant.0 c.list_block-count.ensures.value,
      goes_on _ _ _ _ _ _ c.loop-i.records c.loop-i.coded c.loop-i.count c.loop-i.i c.loop-i.invariant.1 (omega arith) (omega arith) (omega arith)
          _ _ _ c.list_block-count.ensures.value c.list_block-count.ensures.records_after c.list_block-count.ensures.coded_after,
    )
