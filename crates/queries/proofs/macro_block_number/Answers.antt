-- `queries::macro_block_number` meets its contract. Assumes nothing.
use native.Mathlib.Nat.{not-le_of_lt}
use mathlib.Core.Path.{sym, ap, ◌∙◌}
use Rattle.headers.proofs.Fitting.{fits_macro_blocks}
use Rattle.queries.specs.Orders.{as_number}
use Rattle.queries.proofs.OrderLaws.{macro_block_number_is, macro_block_number_absent, macro_block_number_8}
use Rattle.queries.proofs.macro_block_number.Goals as goal

pub macro_block_number-requires : goal.macro_block_number-requires
macro_block_number-requires c = let m = fits_macro_blocks c.args.s (sym c.session_fits.ensures ∙ c.if-session_fits.true) in
    (c.if-x-s.true, c.if-y-s.true, m.1, m.3)

pub returns-then-y-s : goal.returns-then-y-s
returns-then-y-s c = sym (ap as_number (macro_block_number_is c.args.s (sym c.session_fits.ensures ∙ c.if-session_fits.true) c.args.x c.args.y c.macro_block_number.result c.macro_block_number.ensures.0 c.macro_block_number.ensures.1))

pub returns-else-y-s : goal.returns-else-y-s
returns-else-y-s c = sym (ap as_number (macro_block_number_absent c.args.s (sym c.session_fits.ensures ∙ c.if-session_fits.true) c.args.x c.args.y (λ h k. not-le_of_lt k c.if-y-s.false)))

pub returns-else-x-s : goal.returns-else-x-s
returns-else-x-s c = sym (ap as_number (macro_block_number_absent c.args.s (sym c.session_fits.ensures ∙ c.if-session_fits.true) c.args.x c.args.y (λ h k. not-le_of_lt h c.if-x-s.false)))

pub returns : goal.returns
returns c = sym (ap as_number (macro_block_number_8 c.args.s (sym c.session_fits.ensures ∙ c.if-session_fits.false) c.args.x c.args.y))
