-- `report::begin` meets its contract. Assumes nothing.
use Rattle.report.proofs.Steps.{begun}
use Rattle.report.proofs.begin.Goals as goal

pub returns : goal.returns
returns c = begun c.args.report.now (c.requires) (λ i. (c.shared_slice_known-1.given i).fits) _ c.copy_longs.ensures
