-- `rgb::put_pixel` meets its contract. The loop's invariant: j bytes are put. Assumes nothing.
use Prim.Native.Nat.{◌+◌, ◌-◌, ◌≤◌}
use mathlib.Core.Path.{◌≡◌}
use mathlib.Core.List.{◌++◌}
use lib.ListN.{length, take}
use Rattle.geometry.specs.Order.{in_turn}
use Rattle.rgb.proofs.Facts.{laid}
use Rattle.rgb.proofs.put_pixel.Given as goal

abbrev pub invariant-loop-j : goal.invariant-loop-j
invariant-loop-j l = (l.j ≤ l.n) × (length l.out ≡ length l.initial.out) × (take (l.at + l.j) l.out ≡ take l.at l.initial.out ++ in_turn (laid l.y l.cb l.cr) l.j)

abbrev pub decreases-loop-j : goal.decreases-loop-j
decreases-loop-j l = l.n - l.j
