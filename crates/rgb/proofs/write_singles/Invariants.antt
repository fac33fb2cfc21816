-- `rgb::write_singles` meets its contract. The loop's invariant: x pixels are written. Assumes nothing.
use Prim.Native.Nat.{◌-◌, ◌≤◌}
use mathlib.Core.Path.{◌≡◌}
use lib.ListN.{length}
use Rattle.rgb.specs.Sums.{Begun}
use Rattle.rgb.proofs.write_singles.Given as goal

abbrev pub invariant-loop-x : goal.invariant-loop-x
invariant-loop-x l = (l.x ≤ length l.luma) × (length l.out ≡ length l.initial.out) × Begun (λ i. i) l.luma l.cb l.cr l.x l.out

abbrev pub decreases-loop-x : goal.decreases-loop-x
decreases-loop-x l = length l.luma - l.x
