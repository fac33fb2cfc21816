-- `settings::version_holds` meets its contract. Assumes nothing.
use mathlib.Core.Path.{refl}
use Rattle.settings.specs.Settings.{holds}
use Rattle.settings.proofs.version_holds.Goals as goal

pub returns : goal.returns
unfolding holds
returns c = refl
