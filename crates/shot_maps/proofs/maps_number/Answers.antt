-- `shot_maps::maps_number` meets its contract. Assumes nothing.
use mathlib.Core.Path.{sym, ◌∙◌}
use Rattle.shot_maps.proofs.Fits.{number_0, number_1, number_20}
use borrow.Author.Rules.{rules}
use Rattle.shot_maps.proofs.maps_number.Goals as goal

pub returns-then-maps_fit : goal.returns-then-maps_fit
returns-then-maps_fit c = number_0 c.args.set c.args.s c.args.packets c.args.bytes (sym c.settings_fit.ensures ∙ c.if-settings_fit.true) (sym c.maps_fit.ensures ∙ c.if-maps_fit.true)

pub returns-then-settings_fit : goal.returns-then-settings_fit
returns-then-settings_fit c = number_1 c.args.set c.args.s c.args.packets c.args.bytes (sym c.settings_fit.ensures ∙ c.if-settings_fit.true) (sym c.maps_fit.ensures ∙ c.if-maps_fit.false)

pub returns : goal.returns
returns c = number_20 c.args.set c.args.s c.args.packets c.args.bytes (sym c.settings_fit.ensures ∙ c.if-settings_fit.false)
