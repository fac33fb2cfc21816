-- `prediction::write_clamped` meets its contract.
-- Assumes nothing.
use mathlib.Core.Path.{ap, ◌∙◌}
use Prim.Native.Nat.{◌+◌, ◌*◌}
use Rattle.prediction.specs.Block.{with_residual}
use Rattle.fetches.specs.Fetched.{mean_at}
use Rattle.prediction.proofs.Facts.{block_same, of_means}
use Rattle.prediction.proofs.write_clamped.Goals as goal

pub returns : goal.returns
returns c = c.write_rows.ensures
    ∙ block_same _ (λ c' r. with_residual c.args.residual.now (r * 8 + c') (mean_at c.args.plane c.args.source.now c.args.t c' r)) c.args.corner (8 * c.args.plane.across) c.args.new.now
    (λ n r hc hr. ap (with_residual c.args.residual.now (r * 8 + n)) (of_means c.fetch_block-m.result n r hc hr (mean_at c.args.plane c.args.source.now c.args.t) c.fetch_block-m.ensures))
