-- `y4m::frames::put_frames` meets its contract. The loop's invariant: k frames are written. Assumes nothing.
use Prim.Native.Nat.{◌+◌, ◌*◌, ◌-◌, ◌≤◌}
use mathlib.Core.Path.{◌≡◌}
use lib.ListN.{length}
use Rattle.output.specs.Output.{spliced}
use Rattle.y4m.specs.Stream.{frame_bytes, frames_text}
use Rattle.y4m.specs.Film.{step}
use Rattle.y4m.proofs.frames.put_frames.Given as goal

abbrev pub invariant-loop-k : goal.invariant-loop-k
invariant-loop-k l = (l.k ≤ l.count) × (l.place ≡ l.at + l.k * step l.n) × (l.from ≡ l.k * frame_bytes l.n) × (length l.out ≡ length l.initial.out) × (l.out ≡ spliced l.at (frames_text l.n l.frames l.k) l.initial.out)

abbrev pub decreases-loop-k : goal.decreases-loop-k
decreases-loop-k l = l.count - l.k
