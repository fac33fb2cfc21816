-- `super_list::list_block` meets its contract. Assumes nothing.
use Rattle.std.proofs.Common.{◌≡◌, get_or, sym, ap, ◌∙◌}
use Rattle.geometry.specs.Raster.{raster_number}
use Rattle.coded_flags.specs.Coded.{order}
use Rattle.coded_flags.proofs.Order.{order_at}
use Rattle.super_list.proofs.Whole.{inside}
use Rattle.super_list.proofs.list_block.Goals as goal

pub raster_number-n-requires : goal.raster_number-n-requires
raster_number-n-requires c = (c.requires.0, c.requires.1, inside c.args.format c.args.w c.args.h c.args.i c.requires.2 _ c.block_at-b.ensures)

pub returns : goal.returns
returns c =
    let number : c.raster_number-n.result ≡ get_or (order c.args.format c.args.w c.args.h) c.args.i 0 =
    c.raster_number-n.ensures.0 ∙ ap (raster_number c.args.format c.args.w c.args.h) c.block_at-b.ensures ∙ sym (order_at c.args.format c.args.w c.args.h c.args.i c.requires.2) in
    record {
      value = c.list_number.ensures.value;
      records_after = rw number at c.list_number.ensures.records_after;
      coded_after = rw number at c.list_number.ensures.coded_after;
    }
