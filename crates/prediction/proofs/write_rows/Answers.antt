-- `prediction::write_rows` meets its contract.
-- Assumes nothing.
use mathlib.Core.Path.{◌∙◌}
use Prim.Native.Nat.{◌+◌, ◌*◌}
use Rattle.prediction.specs.Block.{mean_of, with_residual}
use Rattle.prediction.proofs.Facts.{block_same}
use Rattle.prediction.proofs.write_rows.Goals as goal

pub returns : goal.returns
returns c = c.copy_rows.ensures
    ∙ block_same _ (λ c' r. with_residual c.args.residual.now (r * 8 + c') (mean_of c.args.source.now (c.args.a + r * c.args.stride + c') (c.args.b + r * c.args.stride + c'))) c.args.corner c.args.row c.args.new.now c.sum_rows-t.ensures.each
