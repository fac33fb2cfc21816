-- `queries::block_at` meets its contract. Assumes nothing.
use Prim.Native.Nat.{◌≤◌, ◌<◌}
use mathlib.Core.Path.{sym, ap, subst, ◌∙◌}
use Rattle.geometry.specs.declared.FrameSizes.{FrameSizes}
use Rattle.headers.proofs.Fitting.{fits_macro_blocks}
use Rattle.queries.specs.Orders.{as_block}
use Rattle.queries.proofs.OrderLaws.{block_at_is, block_at_absent, block_at_8}
use Rattle.queries.proofs.block_at.Goals as goal

pub sizes-sizes-requires : goal.sizes-sizes-requires
sizes-sizes-requires c = let m = fits_macro_blocks c.args.s (sym c.session_fits.ensures ∙ c.if-session_fits.true) in
    (m.1, m.3)

pub block_at-requires : goal.block_at-requires
block_at-requires c = let m = fits_macro_blocks c.args.s (sym c.session_fits.ensures ∙ c.if-session_fits.true) in
    (m.1, m.3, (subst (λ (n : FrameSizes). c.args.i < n.blocks) c.sizes-sizes.ensures c.if-i-sizes.true))

pub returns-then-i-sizes : goal.returns-then-i-sizes
returns-then-i-sizes c = sym (ap as_block (block_at_is c.args.s (sym c.session_fits.ensures ∙ c.if-session_fits.true) c.pixel_format-format.result c.pixel_format-format.ensures c.args.i c.block_at.result (subst (λ (n : FrameSizes). c.args.i < n.blocks) c.sizes-sizes.ensures c.if-i-sizes.true) c.block_at.ensures))

pub returns-then-session_fits : goal.returns-then-session_fits
returns-then-session_fits c = sym (ap as_block (block_at_absent c.args.s (sym c.session_fits.ensures ∙ c.if-session_fits.true) c.pixel_format-format.result c.pixel_format-format.ensures c.args.i (subst (λ (n : FrameSizes). n.blocks ≤ c.args.i) c.sizes-sizes.ensures c.if-i-sizes.false)))

pub returns : goal.returns
returns c = sym (ap as_block (block_at_8 c.args.s (sym c.session_fits.ensures ∙ c.if-session_fits.false) c.args.i))
