use native.Mathlib.Omega.{arith}
use mathlib.Core.Path.{◌∙◌}
use Rattle.bitstream.proofs.ListLaws.{all_at}
use Rattle.block_qi.proofs.Steps.{raising_done, raising_needs, raising_on}
use Rattle.block_qi.proofs.raise_blocks.Goals as goal

pub raise_block-j-requires : goal.raise_block-j-requires
raise_block-j-requires c = (
  omega (arith, all_at c.loop-i.i c.requires.2 c.loop-i-test.true, c.loop-i.invariant.0),
  c.loop-i.invariant.1.held,
  c.requires.0,
  c.requires.3,
  raising_needs c.args.q c.args.coded.now c.args.bits.now c.args.records.now c.loop-i.records c.loop-i.i c.loop-i.j c.loop-i.invariant.1 c.loop-i-test.true,
)

pub loop-i-preserved : goal.loop-i-preserved
loop-i-preserved c = (
  c.raise_block-j.auto.records ∙ c.loop-i.invariant.0,
  raising_on c.args.q c.args.coded.now c.args.bits.now c.args.records.now c.loop-i.records c.loop-i.i c.loop-i.j c.loop-i.invariant.1
      c.loop-i-test.true c.requires.1 c.requires.3 c.requires.0 c.raise_block-j.new.records c.raise_block-j.result c.raise_block-j.ensures.value c.raise_block-j.ensures.records_after,
)

pub returns : goal.returns
returns c = raising_done c.args.q c.args.coded.now c.args.bits.now c.args.records.now c.loop-i.records c.loop-i.i c.loop-i.j c.loop-i.invariant.1 c.loop-i-test.false
