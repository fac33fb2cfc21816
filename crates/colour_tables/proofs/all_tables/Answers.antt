-- `colour_tables::all_tables` meets its contract: one computed test of 1,280 entries. Assumes nothing.
use mathlib.Core.Path.{refl}
use Rattle.numeric.specs.Divide.{round_over}
use Rattle.colour_tables.specs.Rule.{entry, entries_from, contributions}
use Rattle.colour_tables.proofs.all_tables.Goals as goal

pub returns : goal.returns
unfolding contributions entries_from entry round_over
returns c = refl
