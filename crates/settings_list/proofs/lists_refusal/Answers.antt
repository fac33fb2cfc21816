-- `settings_list::lists_refusal` meets its contract. Assumes nothing.
use mathlib.Core.Path.{sym, ◌∙◌}
use Rattle.settings_list.proofs.ShotLists.{number_1, number_20, number_lists, number_0}
use Rattle.settings_list.proofs.lists_refusal.Goals as goal

pub returns-then-settings-ne4 : goal.returns-then-settings-ne4
returns-then-settings-ne4 c = number_1 c.args.settings.now c.args.session c.args.names c.if-settings-ne4.true

pub returns-then-session-names : goal.returns-then-session-names
returns-then-session-names c = number_0 c.args.settings.now c.args.session c.args.names c.if-settings-ne4.false _ c.settings_of-set.ensures (sym c.settings_fit.ensures ∙ c.if-settings_fit.true) c.if-session-names.true

pub returns-then-settings_fit : goal.returns-then-settings_fit
returns-then-settings_fit c = number_lists c.args.settings.now c.args.session c.args.names c.if-settings-ne4.false _ c.settings_of-set.ensures (sym c.settings_fit.ensures ∙ c.if-settings_fit.true) c.if-session-names.false

pub returns : goal.returns
returns c = number_20 c.args.settings.now c.args.session c.args.names c.if-settings-ne4.false _ c.settings_of-set.ensures (sym c.settings_fit.ensures ∙ c.if-settings_fit.false)
