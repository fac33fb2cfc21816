-- `y4m::frames::turn_planes` meets its contract. The loop's invariant: the planes before p are written. Assumes nothing.
use Prim.Native.Nat.{◌-◌, ◌≤◌}
use mathlib.Core.Path.{◌≡◌}
use lib.ListN.{length}
use Rattle.geometry.specs.Order.{in_turn}
use Rattle.output.specs.Output.{spliced}
use Rattle.y4m.specs.Stream.{plane_rows}
use Rattle.y4m.proofs.frames.turn_planes.Given as goal

abbrev pub invariant-loop-p : goal.invariant-loop-p
invariant-loop-p l = (l.p ≤ 3) × (length l.dst ≡ length l.initial.dst) × (l.dst ≡ spliced 0 (in_turn (plane_rows l.format l.w l.h l.src) l.p) l.initial.dst)

abbrev pub decreases-loop-p : goal.decreases-loop-p
decreases-loop-p l = 3 - l.p
