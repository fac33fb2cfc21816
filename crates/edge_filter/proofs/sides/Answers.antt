-- `edge_filter::sides` meets its contract.
-- Assumes nothing.
use mathlib.Core.Path.{◌≡◌, ap, ◌∙◌}
use native.Mathlib.Omega.{arith}
use lib.IntN.{ℤ, pos, ◌+ℤ◌, ◌-ℤ◌}
use mir.Syntax.{w16, w32}
use Rattle.numeric.specs.Clamp.{clamp255}
use Rattle.numeric.proofs.Magnitude.{size}
use Rattle.numeric.proofs.Known.{Known, k_of, k_got, k_nat, k_add, k_sub, k_cast}
use Rattle.edge_filter.specs.Filter.{response_of, limited_of, filtered}
use Rattle.edge_filter.proofs.sides.Goals as goal

pub returns : goal.returns
unfolding filtered
returns c =
    let R : Known w16 c.response.result 256 =
    k_of (record { sfits = c.response.type_inv }) (size c.response.ensures.1) in
    let move : ℤ =
    limited_of c.args.limit (response_of c.args.p0 c.args.p1 c.args.p2 c.args.p3) in
    let move-is : c.limited-v.result ≡ move =
    c.limited-v.ensures.0 ∙ ap (limited_of c.args.limit) ((R).reads ∙ c.response.ensures.0) in
    let f : Known w16 move 127 =
    k_got {w = w16} c.limited-v.type_inv move-is c.limited-v.ensures.1 in
    let p1 : Known w16 (pos c.args.p1) 255 =
    k_nat _ 255 (omega arith) tt in
    let p2 : Known w16 (pos c.args.p2) 255 =
    k_nat _ 255 (omega arith) tt in
    let more : Known w16 (pos c.args.p1 +ℤ move) 382 =
    k_add p1 f tt in
    let less : Known w16 (pos c.args.p2 -ℤ move) 382 =
    k_sub p2 f tt in
    (c.clamp_to_byte.ensures ∙ ap clamp255 (k_cast w32 (more) tt).reads, c.clamp_to_byte-2.ensures ∙ ap clamp255 (k_cast w32 (less) tt).reads)
