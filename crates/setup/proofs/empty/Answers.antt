-- `setup::empty` meets its contract. Assumes nothing.
use mathlib.Core.Path.{refl}
use Rattle.setup.specs.Loaded.{empty_setup}
use Rattle.setup.proofs.empty.Goals as goal

pub returns : goal.returns
unfolding empty_setup
returns c = refl
