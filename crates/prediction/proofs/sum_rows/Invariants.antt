-- `prediction::sum_rows` meets its contract. The loop's invariant: r of the 8 rows are made.
-- Assumes nothing.
use Rattle.std.proofs.Common.{◌≡◌, ◌+◌, ◌*◌, length, replicate}
use Rattle.ways.specs.Loops.{up_to}
use Rattle.ways.specs.Corner.{row_at}
use Rattle.prediction.specs.Block.{mean_of, with_residual}
use Rattle.prediction.proofs.sum_rows.Given as goal

abbrev pub invariant-loop-r : goal.invariant-loop-r
invariant-loop-r l =
    (length l.t ≡ 64)
    × (l.t ≡ up_to l.r (λ r. row_at (λ c. with_residual l.residual (r * 8 + c) (mean_of l.source (l.a + r * l.stride + c) (l.b + r * l.stride + c))) (r * 8)) (replicate 64 0))
