-- `stream_check::alike` meets its contract. The loop's invariant: whether the first i bytes are the same. Assumes nothing.
use Prim.Native.Nat.{◌-◌, ◌≤◌}
use mathlib.Core.Path.{◌≡◌}
use lib.Dec.{leb}
use Rattle.stream_check.specs.Compared.{difference}
use Rattle.stream_check.proofs.alike.Given as goal

abbrev pub invariant-loop-i : goal.invariant-loop-i
invariant-loop-i l = (l.i ≤ l.n) × (l.same ≡ leb l.i (difference l.want l.file))

abbrev pub decreases-loop-i : goal.decreases-loop-i
decreases-loop-i l = l.n - l.i
