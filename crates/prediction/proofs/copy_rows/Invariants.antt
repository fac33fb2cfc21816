-- `prediction::copy_rows` meets its contract. The loop's invariant: r of the 8 rows are copied.
-- Assumes nothing.
use Rattle.std.proofs.Common.{◌≡◌, ◌+◌, ◌*◌, get_or}
use Rattle.ways.specs.Loops.{up_to}
use Rattle.ways.specs.Corner.{row_at}
use Rattle.prediction.proofs.copy_rows.Given as goal

abbrev pub invariant-loop-r : goal.invariant-loop-r
invariant-loop-r l = l.new ≡ up_to l.r (λ r. row_at (λ c. get_or l.t (r * 8 + c) 0) (l.corner + r * l.row)) l.fn.new
