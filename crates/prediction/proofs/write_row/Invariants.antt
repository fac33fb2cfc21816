-- `prediction::write_row` meets its contract. The loop's invariant: c of the 8 samples are written.
-- Assumes nothing.
use Rattle.std.proofs.Common.{◌≡◌, ◌+◌, set}
use Rattle.ways.specs.Loops.{up_to}
use Rattle.prediction.specs.Block.{mean_of, with_residual}
use Rattle.prediction.proofs.write_row.Given as goal

abbrev pub invariant-loop-c : goal.invariant-loop-c
invariant-loop-c l = l.new ≡ up_to l.c (λ c s. set s (l.at + c) (with_residual l.residual (l.k + c) (mean_of l.source (l.a + c) (l.b + c)))) l.fn.new
