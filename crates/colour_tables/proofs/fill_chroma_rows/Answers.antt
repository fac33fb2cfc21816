use Rattle.std.proofs.Common.{refl, arith}
use Rattle.geometry.specs.Order.{in_turn}
use Rattle.colour_tables.proofs.Parts.{row_more, rows_done}
use Rattle.colour_tables.proofs.fill_chroma_rows.Goals as goal

pub loop-k-init : goal.loop-k-init
unfolding in_turn
loop-k-init c = refl

pub loop-k-preserved : goal.loop-k-preserved
loop-k-preserved c =
    row_more c.loop-k.rows _ _ _ c.loop-k.k _ c.part_of-c.ensures c.loop-k.invariant c.put_part.ensures c.put_part-in-loop-k.ensures c.put_part-in-loop-k-2.ensures

pub returns : goal.returns
returns c = rows_done c.loop-k.rows c.loop-k.k (omega arith) (omega arith) c.loop-k.invariant
