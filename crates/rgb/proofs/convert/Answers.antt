-- `rgb::convert` meets its contract. Assumes nothing.
use native.Mathlib.Omega.{arith}
use mathlib.Core.Path.{◌≡◌, sym, ◌∙◌}
use mathlib.Core.Bool.{true}
use lib.ListN.{length}
use Rattle.headers.specs.Fits.{session_fits}
use Rattle.headers.proofs.Fitting.{fits_macro_blocks}
use Rattle.rgb.proofs.Calls.{call_8, call_1, whole, call_18, call_14, call_done, bytes_small, room_for}
use Rattle.bitstream.proofs.Clauses.{two}
use Rattle.rgb.proofs.convert.Goals as goal

pub returns-then-not-session_fits : goal.returns-then-not-session_fits
returns-then-not-session_fits c = two (λ a b. record { value = a; out_after = b }) (call_8 c.args.s c.args.planes.now c.args.out.now (sym c.session_fits.ensures ∙ c.if-not-session_fits.true))

pub sizes-sizes-requires : goal.sizes-sizes-requires
sizes-sizes-requires c =
    let fits : session_fits c.args.s ≡ true =
    sym c.session_fits.ensures ∙ c.if-not-session_fits.false in
    let m = fits_macro_blocks c.args.s (fits) in (m.1, m.3)

pub returns-then-planes-sizes : goal.returns-then-planes-sizes
returns-then-planes-sizes c =
    let fits : session_fits c.args.s ≡ true =
    sym c.session_fits.ensures ∙ c.if-not-session_fits.false in two (λ a b. record { value = a; out_after = b }) (call_1 c.args.s c.args.planes.now c.args.out.now (fits) c.pixel_format-format.result c.pixel_format-format.ensures c.sizes-sizes.result c.sizes-sizes.ensures c.if-planes-sizes.true)

pub returns-then-not-known : goal.returns-then-not-known
returns-then-not-known c =
    let fits : session_fits c.args.s ≡ true =
    sym c.session_fits.ensures ∙ c.if-not-session_fits.false in two (λ a b. record { value = a; out_after = b }) (call_18 c.args.s c.args.planes.now c.args.out.now (fits) c.pixel_format-format.result c.pixel_format-format.ensures c.sizes-sizes.result c.sizes-sizes.ensures c.if-planes-sizes.false (c.if-not-known.true))

pub overflow_mul-n : goal.overflow_mul-n
overflow_mul-n c =
    let fits : session_fits c.args.s ≡ true =
    sym c.session_fits.ensures ∙ c.if-not-session_fits.false in
    record { fits = omega (arith, bytes_small c.args.s c.args.planes.now c.args.out.now (fits) c.pixel_format-format.result c.pixel_format-format.ensures c.sizes-sizes.result c.sizes-sizes.ensures) }

pub returns-then-out-n : goal.returns-then-out-n
returns-then-out-n c =
    let fits : session_fits c.args.s ≡ true =
    sym c.session_fits.ensures ∙ c.if-not-session_fits.false in two (λ a b. record { value = a; out_after = b }) (call_14 c.args.s c.args.planes.now c.args.out.now (fits) c.pixel_format-format.result c.pixel_format-format.ensures c.sizes-sizes.result c.sizes-sizes.ensures c.if-planes-sizes.false (c.if-not-known.false) c.if-out-n.true)

pub write_picture-requires : goal.write_picture-requires
write_picture-requires c =
    let fits : session_fits c.args.s ≡ true =
    sym c.session_fits.ensures ∙ c.if-not-session_fits.false in
    let m = fits_macro_blocks c.args.s (fits) in
    (m.1, m.3, c.all_tables-tables.ensures, c.fill_chroma_rows.ensures, whole c.args.s c.args.planes.now c.args.out.now (fits) c.pixel_format-format.result c.pixel_format-format.ensures c.sizes-sizes.result c.sizes-sizes.ensures c.if-planes-sizes.false, room_for c.args.s c.args.planes.now c.args.out.now (fits) c.pixel_format-format.result c.pixel_format-format.ensures c.sizes-sizes.result c.sizes-sizes.ensures (length c.args.out.now) c.if-out-n.false)

pub returns : goal.returns
returns c =
    let fits : session_fits c.args.s ≡ true =
    sym c.session_fits.ensures ∙ c.if-not-session_fits.false in two (λ a b. record { value = a; out_after = b }) (call_done c.args.s c.args.planes.now c.args.out.now (fits) c.pixel_format-format.result c.pixel_format-format.ensures c.sizes-sizes.result c.sizes-sizes.ensures c.if-planes-sizes.false (c.if-not-known.false) c.if-out-n.false _ c.write_picture.ensures)
