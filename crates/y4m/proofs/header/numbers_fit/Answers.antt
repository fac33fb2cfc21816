-- `y4m::header::numbers_fit` meets its contract. Assumes nothing.
use mathlib.Core.Bool.{◌&&◌, ◌||◌}
use lib.Dec.{eqb}
use Rattle.y4m.specs.Film.{numbers_fit}
use Rattle.y4m.proofs.header.numbers_fit.Goals as goal

pub returns : goal.returns
unfolding numbers_fit
returns c = λ i. (c.size_fits.ensures i && c.size_fits-2.ensures i) && ((c.rate_fits.ensures i && c.rate_fits-2.ensures i) && (c.aspect_fits-aspects.ensures i && (eqb c.args.n.pf 0 || (eqb c.args.n.pf 2 || eqb c.args.n.pf 3))))
