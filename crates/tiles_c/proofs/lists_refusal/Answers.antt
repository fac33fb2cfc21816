-- `tiles_c::lists_refusal` meets its contract. Assumes nothing.
use mathlib.Core.Path.{◌≡◌, sym, ◌∙◌}
use Rattle.tiles_c.proofs.Calls.{number_1, number_20, number_session}
use borrow.Author.Rules.{rules}
use Rattle.tiles_c.proofs.lists_refusal.Goals as goal

pub returns-then-settings-ne4 : goal.returns-then-settings-ne4
returns-then-settings-ne4 c = number_1 c.args.wanted c.args.settings.now c.args.session.now c.args.room c.if-settings-ne4.true

pub returns-then-settings_fit : goal.returns-then-settings_fit
returns-then-settings_fit c = number_session c.args.wanted c.args.settings.now c.args.session.now c.args.room c.if-settings-ne4.false _ c.settings_of-set.ensures (sym c.settings_fit.ensures ∙ c.if-settings_fit.true) _ c.lists_refusal.ensures

pub returns : goal.returns
returns c = number_20 c.args.wanted c.args.settings.now c.args.session.now c.args.room c.if-settings-ne4.false _ c.settings_of-set.ensures (sym c.settings_fit.ensures ∙ c.if-settings_fit.false)
