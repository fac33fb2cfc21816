use Rattle.std.proofs.Common.{pos, set, w16, ap, ap₂, ◌∙◌, arith}
use Rattle.std.proofs.lemmas.List.{length-take}
use mir.Val.{to_z, of_z}
use Rattle.numeric.proofs.Known.{back, k_any}
use Rattle.zig_zag.specs.Values.{dequantized, values}
use Rattle.zig_zag.specs.Placing.{turned}
use Rattle.zig_zag.proofs.Placed.{first_placed}
use Rattle.zig_zag.proofs.Turned.{first_turned}
use Rattle.transform.proofs.Filled.{filled}
use Rattle.transform.proofs.dequantize.Goals as goal

pub slice_bounds-fill-end-2 : goal.slice_bounds-fill-end-2
slice_bounds-fill-end-2 c = omega (arith, length-take 64 c.args.out.now)

pub returns : goal.returns
returns c =
    let dc = to_z w16 (of_z w16 c.args.dc) in
    let zeros = filled 64 c.args.out.now c.fill.new.self (pos 0) c.requires.2 (c.fill.ensures.after (λ y e. e)) in
    let first = back w16 c.dequantized.result c.dequantized.type_inv ∙ c.dequantized.ensures in
    let before =
    ap₂ (λ l v. set l 0 v) zeros first ∙ first_turned (dequantized dc c.args.q) ∙ ap turned (first_placed c.args.coefs.now c.args.at dc c.args.q c.args.matrix.now) in
    c.place_values.ensures dc c.args.q c.used.ensures.1 before
    ∙ ap (λ x. turned (values c.args.coefs.now c.args.at x c.args.q c.args.matrix.now)) (k_any c.ranges.dc).reads
