-- Rows of samples, turned over: "top row first".
use Rattle.std.specs.Prelude.{ℕ, ◌*◌, ◌-◌, List}
use Rattle.geometry.specs.Order.{in_turn}
use Rattle.output.specs.Output.{part}

-- the rows of a plane, the last one first
unfoldable pub turned : (row rows : ℕ) → List ℕ → List ℕ
turned row rows l = in_turn (λ r. part l ((rows - 1 - r) * row) row) rows
