-- `rgb::write_picture` meets its contract. The loop's invariant: y rows are left, the others are written. Assumes nothing.
use Prim.Native.Nat.{◌-◌, ◌*◌, ◌≤◌}
use mathlib.Core.Path.{◌≡◌}
use lib.ListN.{length}
use Rattle.geometry.specs.Order.{in_turn}
use Rattle.output.specs.Output.{spliced}
use Rattle.rgb.proofs.Rows.{row_from}
use Rattle.rgb.proofs.write_picture.Given as goal

abbrev pub invariant-loop-y : goal.invariant-loop-y
invariant-loop-y l = (l.y ≤ 16 * l.h) × (l.at ≡ (16 * l.h - l.y) * (48 * l.w)) × (length l.out ≡ length l.initial.out) × (l.out ≡ spliced 0 (in_turn (row_from l.format l.w l.h l.planes) (16 * l.h - l.y)) l.initial.out)

abbrev pub decreases-loop-y : goal.decreases-loop-y
decreases-loop-y l = l.y
