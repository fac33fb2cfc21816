use native.Mathlib.Omega.{arith}
use mathlib.Core.Path.{ap, ◌∙◌}
use mathlib.Core.Bool.{Bool, ◌&&◌}
use lib.Dec.{eqb}
use lib.ListN.{get_or}
use Rattle.stream_check.proofs.Differences.{further}
use Rattle.stream_check.proofs.alike.Goals as goal

pub loop-i-preserved : goal.loop-i-preserved
loop-i-preserved c = (omega arith, ap (λ (b : Bool). b && eqb (get_or c.args.want.now c.loop-i.i 0) (get_or c.args.file.now c.loop-i.i 0)) c.loop-i.invariant.1 ∙ further c.args.want.now c.args.file.now c.loop-i.i (omega arith) (omega arith))
