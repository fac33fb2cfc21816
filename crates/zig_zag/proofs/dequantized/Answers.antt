-- `zig_zag::dequantized` meets its contract. Assumes nothing.
use mathlib.Core.Path.{ap, ◌∙◌}
use native.Mathlib.Omega.{arith}
use lib.IntN.{pos, ◌*ℤ◌}
use mir.Syntax.{w16, w32}
use Rattle.numeric.specs.Cut.{cut}
use Rattle.numeric.proofs.Known.{Known, k_wide, back, k_nat, k_mul}
use Rattle.zig_zag.specs.Values.{dequantized}
use Rattle.zig_zag.proofs.dequantized.Goals as goal

pub returns : goal.returns
unfolding dequantized
returns c =
    let x : Known w32 c.args.c 32768 =
    k_wide c.ranges.c in
    let q : Known w32 (pos c.args.q) 65535 =
    k_nat c.args.q 65535 (omega arith) tt in
    let product : Known w32 (c.args.c *ℤ pos c.args.q) 2147450880 =
    k_mul x q tt in
    back w16 c.cut16.result c.cut16.type_inv ∙ c.cut16.ensures ∙ ap cut (product).reads
