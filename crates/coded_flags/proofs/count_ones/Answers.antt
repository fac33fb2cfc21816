use native.Mathlib.Omega.{arith}
use Rattle.coded_flags.proofs.Spread.{ones_step, ones_done}
use Rattle.coded_flags.proofs.count_ones.Goals as goal

pub loop-i-preserved : goal.loop-i-preserved
loop-i-preserved c = let s = ones_step c.args.bits.now c.loop-i.i c.loop-i-test.true in
    (omega arith, omega arith, omega arith)

pub returns : goal.returns
returns c = let s = ones_done c.args.bits.now c.loop-i.i c.loop-i-test.false in
    (omega arith, omega arith)
