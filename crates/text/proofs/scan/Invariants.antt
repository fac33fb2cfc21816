-- `text::scan` meets its contract. The loop's invariant: k digits were read. Assumes nothing.
use Prim.Native.Nat.{◌-◌}
use Rattle.text.proofs.Steps.{Scanning}
use Rattle.text.proofs.scan.Given as goal

abbrev pub invariant-loop-k : goal.invariant-loop-k
invariant-loop-k l = Scanning l.text l.at l.value l.next l.k

abbrev pub decreases-loop-k : goal.decreases-loop-k
decreases-loop-k l = 10 - l.k
