-- `stream_check::compare_planes` meets its contract. The loop's invariant: the planes before p are compared. Assumes nothing.
use Prim.Native.Nat.{◌-◌, ◌≤◌}
use mathlib.Core.Path.{◌≡◌}
use lib.ListN.{length}
use Rattle.geometry.specs.Order.{in_turn}
use Rattle.y4m.specs.Stream.{plane_rows}
use Rattle.stream_check.specs.Compared.{onward}
use Rattle.stream_check.proofs.compare_planes.Given as goal

abbrev pub invariant-loop-p : goal.invariant-loop-p
invariant-loop-p l = (l.p ≤ 3) × (l.compared.place ≤ length l.file) × (l.compared ≡ onward l.initial.compared (in_turn (plane_rows l.format l.w l.h l.planes) l.p) l.file)

abbrev pub decreases-loop-p : goal.decreases-loop-p
decreases-loop-p l = 3 - l.p
