-- `queries::sample_offset` meets its contract. Assumes nothing.
use mathlib.Core.Path.{◌≡◌, sym, ap, subst, ◌∙◌}
use mathlib.Core.Bool.{Bool, true, false, ◌&&◌}
use lib.Dec.{ltb}
use Rattle.geometry.specs.Frame.{block}
use Rattle.headers.proofs.Fitting.{fits_macro_blocks}
use Rattle.queries.specs.declared.NumberAnswer.{NumberAnswer}
use Rattle.queries.specs.Orders.{as_number}
use Rattle.queries.proofs.OrderLaws.{sample_inside, sample_offset_is, sample_offset_absent, sample_offset_8}
use Rattle.queries.proofs.sample_offset.Goals as goal

pub has_block-there-requires : goal.has_block-there-requires
has_block-there-requires c = let m = fits_macro_blocks c.args.s (sym c.session_fits.ensures ∙ c.if-session_fits.true) in
    (m.1, m.3)

pub sample_offset-requires : goal.sample_offset-requires
sample_offset-requires c = let m = fits_macro_blocks c.args.s (sym c.session_fits.ensures ∙ c.if-session_fits.true) in
    let i = sample_inside c.pixel_format-format.result c.args.s.fields.fmbw c.args.s.fields.fmbh (block c.args.plane c.args.x c.args.y) c.args.column c.args.row (subst (λ (t : Bool). (t && ltb c.args.column 8 && ltb c.args.row 8) ≡ true) c.has_block-there.ensures c.if-there-column.true) in
    (m.1, m.3, i.0, i.1, i.2)

pub returns-then-there-column : goal.returns-then-there-column
returns-then-there-column c = ap NumberAnswer.Is c.sample_offset.ensures.0 ∙ sym (ap as_number (sample_offset_is c.args.s (sym c.session_fits.ensures ∙ c.if-session_fits.true) c.pixel_format-format.result c.pixel_format-format.ensures (block c.args.plane c.args.x c.args.y) c.args.column c.args.row (subst (λ (t : Bool). (t && ltb c.args.column 8 && ltb c.args.row 8) ≡ true) c.has_block-there.ensures c.if-there-column.true)))

pub returns-then-session_fits : goal.returns-then-session_fits
returns-then-session_fits c = sym (ap as_number (sample_offset_absent c.args.s (sym c.session_fits.ensures ∙ c.if-session_fits.true) c.pixel_format-format.result c.pixel_format-format.ensures (block c.args.plane c.args.x c.args.y) c.args.column c.args.row (subst (λ (t : Bool). (t && ltb c.args.column 8 && ltb c.args.row 8) ≡ false) c.has_block-there.ensures c.if-there-column.false)))

pub returns : goal.returns
returns c = sym (ap as_number (sample_offset_8 c.args.s (sym c.session_fits.ensures ∙ c.if-session_fits.false) (block c.args.plane c.args.x c.args.y) c.args.column c.args.row))
