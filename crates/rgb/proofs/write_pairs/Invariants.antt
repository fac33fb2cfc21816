-- `rgb::write_pairs` meets its contract. The loop's invariant: 2 k pixels are written. Assumes nothing.
use Prim.Native.Nat.{◌-◌, ◌*◌, ◌/◌, ◌≤◌}
use mathlib.Core.Path.{◌≡◌}
use lib.ListN.{length}
use Rattle.rgb.specs.Sums.{Begun}
use Rattle.rgb.proofs.write_pairs.Given as goal

abbrev pub invariant-loop-k : goal.invariant-loop-k
invariant-loop-k l = (2 * l.k ≤ length l.luma) × (length l.out ≡ length l.initial.out) × Begun (λ x. x / 2) l.luma l.cb l.cr (2 * l.k) l.out

abbrev pub decreases-loop-k : goal.decreases-loop-k
decreases-loop-k l = length l.luma - 2 * l.k
