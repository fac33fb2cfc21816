-- `stream_check::difference` meets its contract. The loop's invariant: the first i bytes are the same. Assumes nothing.
use Prim.Native.Nat.{◌-◌, ◌≤◌}
use Rattle.stream_check.specs.Compared.{difference}
use Rattle.stream_check.proofs.difference.Given as goal

abbrev pub invariant-loop-i : goal.invariant-loop-i
invariant-loop-i l = (l.i ≤ l.n) × (l.i ≤ difference l.want l.file)

abbrev pub decreases-loop-i : goal.decreases-loop-i
decreases-loop-i l = l.n - l.i
