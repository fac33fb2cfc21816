-- `block_qi::raise_block` meets its contract. Assumes nothing.
use Prim.Native.Nat.{◌<◌}
use native.Mathlib.Omega.{arith}
use mathlib.Core.Path.{◌≡◌, sym, ◌∙◌}
use lib.ListN.{length, get_or}
use Rattle.bitstream.proofs.ListLaws.{all_at}
use Rattle.block_record.specs.Packed.{unpacked}
use Rattle.block_record.proofs.MemoryLaws.{packed_at}
use Rattle.block_qi.proofs.raise_block.Goals as goal

pub with_qi_index-requires : goal.with_qi_index-requires
with_qi_index-requires c =
    let at_step_law : (unpacked (get_or c.args.records.now c.args.b 0)).qi_index ≡ c.args.q =
    sym c.qi_index.ensures ∙ c.if-qi_index-q.false in
    let there : c.args.j < length c.args.bits.now =
    c.requires.4 (at_step_law) in
    let small : get_or c.args.bits.now c.args.j 0 < 2 =
    all_at c.args.j c.requires.3 there in (
      (packed_at c.args.records.now c.args.b
          c.requires.1).in_range.prediction,
      omega (arith, small, c.requires.2),
    )
