-- `settings::is_text_of` meets its contract. Assumes nothing.
use mathlib.Core.Path.{refl, sym, ◌∙◌}
use Rattle.settings.proofs.Lines.{line_room, line_taken, not_fit, compared}
use Rattle.settings.proofs.is_text_of.Goals as goal

pub slice_bounds-line-end : goal.slice_bounds-line-end
slice_bounds-line-end c = (line_room c.args.version c.args.s c.put_text-end.new.out _ c.put_text-end.result c.put_text-end.ensures.value c.put_text-end.ensures.out_after refl).0

pub slice_bounds-same-end : goal.slice_bounds-same-end
slice_bounds-same-end c = (line_room c.args.version c.args.s c.put_text-end.new.out _ c.put_text-end.result c.put_text-end.ensures.value c.put_text-end.ensures.out_after refl).1

pub returns-then-settings_fit : goal.returns-then-settings_fit
returns-then-settings_fit c = compared c.args.version c.args.s c.args.text.now (sym c.settings_fit.ensures ∙ c.if-settings_fit.true) _ _ c.same.ensures (line_taken c.args.version c.args.s c.put_text-end.new.out _ c.put_text-end.result c.put_text-end.ensures.value c.put_text-end.ensures.out_after)

pub returns : goal.returns
returns c = not_fit c.args.version c.args.s c.args.text.now (sym c.settings_fit.ensures ∙ c.if-settings_fit.false)
