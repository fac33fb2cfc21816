-- `stream_check::compare_rows` meets its contract. The loop's invariant: some number r of rows is compared, the last r of src. Assumes nothing.
use Prim.Native.Nat.{ℕ, ◌+◌, ◌-◌, ◌*◌, ◌≤◌}
use mathlib.Core.Path.{◌≡◌}
use lib.ListN.{length}
use Rattle.geometry.specs.Order.{in_turn}
use Rattle.output.specs.Output.{part}
use Rattle.stream_check.specs.Compared.{onward}
use Rattle.stream_check.proofs.compare_rows.Given as goal

abbrev pub invariant-loop-from : goal.invariant-loop-from
invariant-loop-from l = (r : ℕ) × (r ≤ l.rows) × (r * l.row + l.from ≡ l.rows * l.row) × (l.compared.place ≤ length l.file) × (l.compared ≡ onward l.initial.compared (in_turn (λ i. part l.src ((l.rows - 1 - i) * l.row) l.row) r) l.file)

abbrev pub decreases-loop-from : goal.decreases-loop-from
decreases-loop-from l = l.from
