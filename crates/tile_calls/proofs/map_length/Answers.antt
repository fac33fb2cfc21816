-- `tile_calls::map_length` meets its contract. Assumes nothing.
use mathlib.Core.Path.{◌≡◌, sym, ap, ◌∙◌}
use borrow.Author.Tests.{not-true, not-false}
use Rattle.tile_calls.proofs.Calls.{length_20, length_8, length_is}
use borrow.Author.Rules.{rules}
use Rattle.tile_calls.proofs.map_length.Goals as goal

pub returns-then-not-settings_fit : goal.returns-then-not-settings_fit
returns-then-not-settings_fit c = length_20 c.args.set c.args.s (sym c.settings_fit.ensures ∙ c.if-not-settings_fit.true)

pub returns-then-not-session_fits : goal.returns-then-not-session_fits
returns-then-not-session_fits c = length_8 c.args.set c.args.s (sym c.settings_fit.ensures ∙ c.if-not-settings_fit.false) (sym c.session_fits.ensures ∙ c.if-not-session_fits.true)

pub returns : goal.returns
returns c = length_is c.args.set c.args.s (sym c.settings_fit.ensures ∙ c.if-not-settings_fit.false) (sym c.session_fits.ensures ∙ c.if-not-session_fits.false) _ c.length_of.ensures
