-- `queries::block_number` meets its contract. Assumes nothing.
use mathlib.Core.Path.{sym, ap, ◌∙◌}
use Rattle.geometry.specs.Frame.{block}
use Rattle.headers.proofs.Fitting.{fits_macro_blocks}
use Rattle.queries.specs.Orders.{as_number}
use Rattle.queries.proofs.OrderLaws.{has_in_frame, block_number_is, block_number_absent, block_number_8}
use Rattle.queries.proofs.block_number.Goals as goal

pub has_block-requires : goal.has_block-requires
has_block-requires c = let m = fits_macro_blocks c.args.s (sym c.session_fits.ensures ∙ c.if-session_fits.true) in
    (m.1, m.3)

pub block_number-requires : goal.block_number-requires
block_number-requires c = let m = fits_macro_blocks c.args.s (sym c.session_fits.ensures ∙ c.if-session_fits.true) in
    (m.1, m.3, has_in_frame c.pixel_format-format.result c.args.s.fields.fmbw c.args.s.fields.fmbh (block c.args.plane c.args.x c.args.y) (sym c.has_block.ensures ∙ c.if-has_block.true))

pub returns-then-has_block : goal.returns-then-has_block
returns-then-has_block c = sym (ap as_number (block_number_is c.args.s (sym c.session_fits.ensures ∙ c.if-session_fits.true) c.pixel_format-format.result c.pixel_format-format.ensures (block c.args.plane c.args.x c.args.y) c.block_number.result c.block_number.ensures.0 c.block_number.ensures.1))

pub returns-then-session_fits : goal.returns-then-session_fits
returns-then-session_fits c = sym (ap as_number (block_number_absent c.args.s (sym c.session_fits.ensures ∙ c.if-session_fits.true) c.pixel_format-format.result c.pixel_format-format.ensures (block c.args.plane c.args.x c.args.y) (sym c.has_block.ensures ∙ c.if-has_block.false)))

pub returns : goal.returns
returns c = sym (ap as_number (block_number_8 c.args.s (sym c.session_fits.ensures ∙ c.if-session_fits.false) (block c.args.plane c.args.x c.args.y)))
