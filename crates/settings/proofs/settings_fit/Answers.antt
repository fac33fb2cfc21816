-- `settings::settings_fit` meets its contract. Assumes nothing.
use mathlib.Core.Path.{refl}
use Rattle.settings.specs.Settings.{settings_fit}
use Rattle.settings.proofs.settings_fit.Goals as goal

pub returns : goal.returns
unfolding settings_fit
returns c = refl
