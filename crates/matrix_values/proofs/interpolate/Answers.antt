-- `matrix_values::interpolate` meets its contract. Assumes nothing.
use mathlib.Core.Path.{refl}
use Rattle.matrix_values.specs.Weights.{weighed}
use Rattle.matrix_values.proofs.interpolate.Goals as goal

pub returns : goal.returns
unfolding weighed
returns c = refl
