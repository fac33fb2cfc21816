-- `settings_list::settings_of` meets its contract. Assumes nothing.
use mathlib.Core.Path.{refl}
use Rattle.settings_list.specs.List.{settings_of}
use Rattle.settings_list.proofs.settings_of.Goals as goal

pub returns : goal.returns
unfolding settings_of
returns c = refl
