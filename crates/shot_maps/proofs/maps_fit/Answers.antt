-- `shot_maps::maps_fit` meets its contract. Assumes nothing.
use mathlib.Core.Path.{sym, ◌∙◌}
use Rattle.shot_maps.proofs.Fits.{fit_here, fit_any}
use borrow.Author.Rules.{rules}
use Rattle.shot_maps.proofs.maps_fit.Goals as goal

pub returns-then-session_fits : goal.returns-then-session_fits
returns-then-session_fits c = c.bytes_fit.ensures ∙ fit_here c.args.set c.args.s c.args.packets c.args.bytes (sym c.session_fits.ensures ∙ c.if-session_fits.true) _ c.length_of-n.ensures

pub returns : goal.returns
returns c = fit_any c.args.set c.args.s c.args.packets c.args.bytes (sym c.session_fits.ensures ∙ c.if-session_fits.false)
