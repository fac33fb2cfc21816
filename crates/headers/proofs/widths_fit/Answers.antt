-- `headers::widths_fit` meets its contract. Assumes nothing.
use Rattle.headers.specs.Fits.{widths_fit}
use Rattle.headers.proofs.Fitting.{chain_all}
use Rattle.headers.proofs.widths_fit.Goals as goal

pub returns : goal.returns
unfolding widths_fit
returns c = chain_all _ _
