-- `y4m::frames::take_frames` meets its contract. The loop's invariant: k frames are taken. Assumes nothing.
use Prim.Native.Nat.{◌+◌, ◌*◌, ◌-◌, ◌≤◌}
use mathlib.Core.Path.{◌≡◌}
use lib.ListN.{length, drop}
use Rattle.output.specs.Output.{spliced}
use Rattle.y4m.specs.Stream.{frame_bytes}
use Rattle.y4m.specs.Film.{step, planes_of}
use Rattle.y4m.proofs.frames.take_frames.Given as goal

abbrev pub invariant-loop-k : goal.invariant-loop-k
invariant-loop-k l = (l.k ≤ l.count) × (l.place ≡ l.at + l.k * step l.n) × (l.to ≡ l.k * frame_bytes l.n) × (length l.planes ≡ length l.initial.planes) × (l.planes ≡ spliced 0 (planes_of l.n (drop l.at l.stream) l.k) l.initial.planes)

abbrev pub decreases-loop-k : goal.decreases-loop-k
decreases-loop-k l = l.count - l.k
