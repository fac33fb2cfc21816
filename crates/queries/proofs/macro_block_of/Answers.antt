-- `queries::macro_block_of` meets its contract. Assumes nothing.
use mathlib.Core.Path.{sym, ap, ◌∙◌}
use Rattle.geometry.specs.Frame.{block}
use Rattle.headers.proofs.Fitting.{fits_macro_blocks}
use Rattle.queries.specs.declared.PlaceAnswer.{PlaceAnswer}
use Rattle.queries.specs.Orders.{as_place}
use Rattle.queries.proofs.OrderLaws.{macro_block_of_is, macro_block_of_absent, macro_block_of_8}
use Rattle.queries.proofs.macro_block_of.Goals as goal

pub has_block-requires : goal.has_block-requires
has_block-requires c = let m = fits_macro_blocks c.args.s (sym c.session_fits.ensures ∙ c.if-session_fits.true) in
    (m.1, m.3)

pub returns-then-has_block : goal.returns-then-has_block
returns-then-has_block c = ap PlaceAnswer.Is c.macro_of_block.ensures ∙ sym (ap as_place (macro_block_of_is c.args.s (sym c.session_fits.ensures ∙ c.if-session_fits.true) c.pixel_format-format.result c.pixel_format-format.ensures (block c.args.plane c.args.x c.args.y) (sym c.has_block.ensures ∙ c.if-has_block.true)))

pub returns-then-session_fits : goal.returns-then-session_fits
returns-then-session_fits c = sym (ap as_place (macro_block_of_absent c.args.s (sym c.session_fits.ensures ∙ c.if-session_fits.true) c.pixel_format-format.result c.pixel_format-format.ensures (block c.args.plane c.args.x c.args.y) (sym c.has_block.ensures ∙ c.if-has_block.false)))

pub returns : goal.returns
returns c = sym (ap as_place (macro_block_of_8 c.args.s (sym c.session_fits.ensures ∙ c.if-session_fits.false) (block c.args.plane c.args.x c.args.y)))
