use native.Mathlib.Omega.{arith}
use lib.ListN.{length-set}
use Rattle.quantization.proofs.Layouts.{copy_more}
use Rattle.quantization.proofs.copy_part.Goals as goal

pub loop-k-preserved : goal.loop-k-preserved
loop-k-preserved c = (omega arith, simp length-set c.loop-k.invariant.1, copy_more c.args.s.now c.args.from c.args.to c.loop-k.k c.requires.0 c.requires.1 c.loop-k-test.true c.loop-k.s c.loop-k.invariant.2)
