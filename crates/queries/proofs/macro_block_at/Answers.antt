-- `queries::macro_block_at` meets its contract. Assumes nothing.
use Prim.Native.Nat.{◌≤◌, ◌<◌}
use mathlib.Core.Path.{sym, ap, subst, ◌∙◌}
use Rattle.geometry.specs.declared.FrameSizes.{FrameSizes}
use Rattle.headers.proofs.Fitting.{fits_macro_blocks}
use Rattle.queries.specs.Orders.{as_place}
use Rattle.queries.proofs.OrderLaws.{macro_block_at_is, macro_block_at_absent, macro_block_at_8}
use Rattle.queries.proofs.macro_block_at.Goals as goal

pub sizes-sizes-requires : goal.sizes-sizes-requires
sizes-sizes-requires c = let m = fits_macro_blocks c.args.s (sym c.session_fits.ensures ∙ c.if-session_fits.true) in
    (m.1, m.3)

pub macro_block_at-requires : goal.macro_block_at-requires
macro_block_at-requires c = let m = fits_macro_blocks c.args.s (sym c.session_fits.ensures ∙ c.if-session_fits.true) in
    ((subst (λ (n : FrameSizes). c.args.i < n.macro_blocks) c.sizes-sizes.ensures c.if-i-sizes.true), m.1, m.3)

pub returns-then-i-sizes : goal.returns-then-i-sizes
returns-then-i-sizes c = sym (ap as_place (macro_block_at_is c.args.s (sym c.session_fits.ensures ∙ c.if-session_fits.true) c.args.i c.macro_block_at.result (subst (λ (n : FrameSizes). c.args.i < n.macro_blocks) c.sizes-sizes.ensures c.if-i-sizes.true) c.macro_block_at.ensures))

pub returns-then-session_fits : goal.returns-then-session_fits
returns-then-session_fits c = sym (ap as_place (macro_block_at_absent c.args.s (sym c.session_fits.ensures ∙ c.if-session_fits.true) c.args.i (subst (λ (n : FrameSizes). n.macro_blocks ≤ c.args.i) c.sizes-sizes.ensures c.if-i-sizes.false)))

pub returns : goal.returns
returns c = sym (ap as_place (macro_block_at_8 c.args.s (sym c.session_fits.ensures ∙ c.if-session_fits.false) c.args.i))
