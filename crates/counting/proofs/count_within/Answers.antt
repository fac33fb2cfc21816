use native.Mathlib.Omega.{arith}
use mathlib.Core.Bool.{◌&&◌}
use lib.Dec.{leb, ltb}
use Rattle.counting.proofs.Laws.{count_step, count_done}
use Rattle.counting.proofs.count_within.Goals as goal

pub loop-i-preserved : goal.loop-i-preserved
loop-i-preserved c = let s = count_step (λ n. leb c.args.low n && ltb n c.args.high) c.args.numbers.now c.loop-i.i c.loop-i-test.true in
    (omega arith, omega arith, omega arith)

pub returns : goal.returns
returns c = let s = count_done (λ n. leb c.args.low n && ltb n c.args.high) c.args.numbers.now c.loop-i.i c.loop-i-test.false in
    omega arith
