-- `tile_calls::map_fits` meets its contract. Assumes nothing.
use mathlib.Core.Path.{◌≡◌, sym, ap, ◌∙◌}
use Rattle.tile_calls.proofs.Calls.{map_here, map_any}
use borrow.Author.Rules.{rules}
use Rattle.tile_calls.proofs.map_fits.Goals as goal

pub returns-then-session_fits : goal.returns-then-session_fits
returns-then-session_fits c = map_here c.args.set c.args.s c.args.map.now (sym c.session_fits.ensures ∙ c.if-session_fits.true) _ c.length_of-n.ensures

pub returns : goal.returns
returns c = map_any c.args.set c.args.s c.args.map.now (sym c.session_fits.ensures ∙ c.if-session_fits.false)
