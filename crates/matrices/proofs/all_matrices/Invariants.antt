-- `matrices::all_matrices` meets its contract. The invariant: the matrices of the turns so far stand in the slice. Assumes nothing.
use Prim.Native.Nat.{◌-◌, ◌*◌, ◌≤◌}
use mathlib.Core.Path.{◌≡◌}
use lib.ListN.{length}
use Rattle.matrices.proofs.All.{LoadedTo}
use Rattle.matrices.proofs.all_matrices.Given as goal

abbrev pub invariant-loop-j : goal.invariant-loop-j
invariant-loop-j l = (l.j ≤ 6 * l.count) × (length l.out ≡ 1152) × LoadedTo l.packet l.loaded l.qis l.j l.out

abbrev pub decreases-loop-j : goal.decreases-loop-j
decreases-loop-j l = 6 * l.count - l.j
