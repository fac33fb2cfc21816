use Rattle.std.proofs.Common.{arith}
use Rattle.std.proofs.lemmas.Bool.Decides.{nat_tests}
use Rattle.packet_list.proofs.Walk.{total_drop, total_end}
use Rattle.packet_list.proofs.lengths_reach.Goals as goal

pub returns-then-left-n : goal.returns-then-left-n
returns-then-left-n c = grind (arith, nat_tests, total_drop)

pub loop-n-preserved : goal.loop-n-preserved
loop-n-preserved c = grind (arith, total_drop)

pub returns : goal.returns
returns c = grind (arith, nat_tests, total_end)
