use native.Mathlib.Omega.{arith}
use Rattle.text.proofs.Steps.{counted_start, counted_less, counted_end, one_digit}
use Rattle.text.proofs.digit_count.Goals as goal

pub returns-then-n-lt10 : goal.returns-then-n-lt10
returns-then-n-lt10 c = (one_digit c.args.n c.if-n-lt10.true, omega arith)

pub loop-power-init : goal.loop-power-init
loop-power-init c = counted_start c.args.n c.requires

pub loop-power-preserved : goal.loop-power-preserved
loop-power-preserved c = counted_less c.args.n c.loop-power.power c.loop-power.k c.if-n-lt10.false c.loop-power-test.true c.loop-power.invariant

pub returns : goal.returns
returns c = (counted_end c.args.n c.loop-power.power c.loop-power.k c.loop-power-test.false c.loop-power.invariant, c.loop-power.invariant.few)
