use Prim.Native.Nat.{◌<◌}
use native.Mathlib.Omega.{arith}
use lib.ListN.{length, get_or}
use Rattle.bitstream.proofs.ListLaws.{all_at}
use Rattle.block_qi.proofs.Steps.{at_step_law, at_end}
use borrow.Author.Rules.{rules}
use Rattle.block_qi.proofs.count_at.Goals as goal

pub offset_bounds-records-b : goal.offset_bounds-records-b
offset_bounds-records-b c = let h : get_or c.args.coded.now c.loop-i.i 0 < length c.args.records.now =
    all_at c.loop-i.i c.requires c.loop-i-test.true in
    search rules

pub bounds-records-b : goal.bounds-records-b
bounds-records-b c = all_at c.loop-i.i c.requires c.loop-i-test.true

pub loop-i-preserved : goal.loop-i-preserved
loop-i-preserved c = let s = at_step_law c.args.q c.args.coded.now c.args.records.now c.loop-i.i c.loop-i-test.true in
    (omega arith, omega arith, omega arith)

pub returns : goal.returns
returns c = let s = at_end c.args.q c.args.coded.now c.args.records.now c.loop-i.i c.loop-i-test.false in
    (omega arith, omega arith)
