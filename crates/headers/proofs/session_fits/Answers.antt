-- `headers::session_fits` meets its contract. Assumes nothing.
use mathlib.Core.Path.{sym, ◌∙◌}
use Rattle.headers.specs.Fits.{session_fits}
use Rattle.headers.proofs.Fitting.{widths_macro_blocks, widths_shift}
use Rattle.headers.proofs.session_fits.Goals as goal

pub ranges_hold-requires : goal.ranges_hold-requires
ranges_hold-requires c = widths_macro_blocks c.args.s.fields (sym c.widths_fit.ensures ∙ c.if-widths_fit.true)

pub within_shift-requires : goal.within_shift-requires
within_shift-requires c = widths_shift c.args.s.fields (sym c.widths_fit.ensures ∙ c.if-widths_fit.true)

pub returns-then-ranges_hold : goal.returns-then-ranges_hold
unfolding session_fits
returns-then-ranges_hold c = rw (sym c.widths_fit.ensures ∙ c.if-widths_fit.true, sym c.ranges_hold.ensures ∙ c.if-ranges_hold.true) c.within_shift.ensures

pub returns-else-ranges_hold : goal.returns-else-ranges_hold
unfolding session_fits
returns-else-ranges_hold c = sym (rw (sym c.widths_fit.ensures ∙ c.if-widths_fit.true, sym c.ranges_hold.ensures ∙ c.if-ranges_hold.false))

pub returns-else-widths_fit : goal.returns-else-widths_fit
unfolding session_fits
returns-else-widths_fit c = sym (rw (sym c.widths_fit.ensures ∙ c.if-widths_fit.false))
