-- What the code answers, as outcomes of the reading algebra.
use Rattle.std.specs.Prelude.{ℕ, ◌-◌, Bool, true, not, eqb}
use Rattle.bitstream.specs.Reading.{Outcome, got, refused, choose}
use Rattle.table_choices.specs.Choices.{Choices, group}
use Rattle.table_choices.specs.declared.Chosen.{Chosen}
use Rattle.table_choices.specs.declared.Chosen.TheVariants as chosen

-- the choices and the place behind them, or the refusal
abbrev pub as_chosen : Outcome Choices → Chosen
as_chosen (got ch e) = chosen.Tables ch.luma ch.chroma e
as_chosen (refused k e) = chosen.Refused k e

-- whether a group of positions begins at k
unfoldable pub begins_group : ℕ → Bool
begins_group k = choose (eqb k 0) true (not (eqb (group k) (group (k - 1))))
