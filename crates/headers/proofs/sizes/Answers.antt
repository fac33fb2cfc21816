-- `headers::sizes` meets its contract. Assumes nothing.
use mathlib.Core.Path.{sym, ap, ◌∙◌}
use Rattle.headers.specs.declared.SizesAnswer.{SizesAnswer}
use Rattle.headers.specs.Sizes.{session_sizes}
use Rattle.headers.proofs.Fitting.{fits_macro_blocks}
use Rattle.headers.proofs.sizes.Goals as goal

pub sizes-requires : goal.sizes-requires
sizes-requires c = let f = fits_macro_blocks c.args.s (sym c.session_fits.ensures ∙ c.if-session_fits.true) in
    (f.1, f.3)

pub returns-then-session_fits : goal.returns-then-session_fits
unfolding session_sizes
returns-then-session_fits c = rw (sym c.session_fits.ensures ∙ c.if-session_fits.true, ← c.pixel_format-format.ensures)
    (ap SizesAnswer.Is c.sizes.ensures)

pub returns : goal.returns
unfolding session_sizes
returns c = sym (rw (sym c.session_fits.ensures ∙ c.if-session_fits.false))
