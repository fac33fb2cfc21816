-- `buffer::fill_bytes` meets its contract. The invariant: the first k of the bytes are set. Assumes nothing.
use Prim.Native.Nat.{◌-◌, ◌≤◌}
use mathlib.Core.Path.{◌≡◌}
use lib.ListN.{length}
use Rattle.buffer.proofs.Laws.{filled_to}
use Rattle.buffer.proofs.fill_bytes.Given as goal

abbrev pub invariant-loop-k : goal.invariant-loop-k
invariant-loop-k l = (l.k ≤ l.count) × (length l.bytes ≡ length l.initial.bytes) × (l.bytes ≡ filled_to l.initial.bytes l.from l.k l.value)

abbrev pub decreases-loop-k : goal.decreases-loop-k
decreases-loop-k l = l.count - l.k
