-- `headers::ranges_hold` meets its contract. Assumes nothing.
use Rattle.headers.specs.Fits.{ranges_hold}
use Rattle.headers.proofs.Fitting.{chain_all}
use Rattle.headers.proofs.ranges_hold.Goals as goal

pub returns : goal.returns
unfolding ranges_hold
returns c = rw (c.picture_inside-across.ensures, c.picture_inside-up.ensures) (chain_all _ _)
