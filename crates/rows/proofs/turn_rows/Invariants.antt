-- `rows::turn_rows` meets its contract. The loop's invariant: some number r of rows is written, and the last r of src used. Assumes nothing.
use Prim.Native.Nat.{ℕ, ◌+◌, ◌-◌, ◌*◌, ◌≤◌}
use mathlib.Core.Path.{◌≡◌}
use lib.ListN.{length, take}
use Rattle.geometry.specs.Order.{in_turn}
use Rattle.output.specs.Output.{part}
use Rattle.rows.proofs.turn_rows.Given as goal

abbrev pub invariant-loop-from : goal.invariant-loop-from
invariant-loop-from l = (r : ℕ) × (r ≤ l.rows) × (l.at ≡ r * l.row) × (l.at + l.from ≡ l.rows * l.row) × (length l.dst ≡ l.rows * l.row) × (take l.at l.dst ≡ in_turn (λ i. part l.src ((l.rows - 1 - i) * l.row) l.row) r)

abbrev pub decreases-loop-from : goal.decreases-loop-from
decreases-loop-from l = l.from
