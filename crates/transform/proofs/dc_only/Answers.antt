-- `transform::dc_only` meets its contract. Assumes nothing.
use mathlib.Core.Path.{ap, ◌∙◌}
use native.Mathlib.Omega.{arith}
use lib.IntN.{pos, ◌*ℤ◌, ◌+ℤ◌}
use mir.Syntax.{w16, w32}
use Rattle.numeric.specs.Cut.{cut}
use Rattle.numeric.specs.Divide.{floor_shift}
use Rattle.numeric.proofs.Known.{Known, k_wide, back, k_nat, k_lit, k_mul, k_add, k_shr}
use Rattle.transform.specs.Residual.{dc_only}
use Rattle.transform.proofs.dc_only.Goals as goal

pub returns : goal.returns
unfolding dc_only
returns c =
    let x : Known w32 c.args.c 32768 =
    k_wide c.ranges.c in
    let q : Known w32 (pos c.args.q) 65535 =
    k_nat c.args.q 65535 (omega arith) tt in
    let product : Known w32 (c.args.c *ℤ pos c.args.q) 2147450880 =
    k_mul x q tt in
    let biased : Known w32 (c.args.c *ℤ pos c.args.q +ℤ pos 15) 2147450895 =
    k_add product (k_lit 15 tt) tt in
    let shifted : Known w32 (floor_shift (c.args.c *ℤ pos c.args.q +ℤ pos 15) 5) 67107841 =
    k_shr 5 67107841 biased tt tt tt in
    back w16 c.cut16.result c.cut16.type_inv ∙ c.cut16.ensures ∙ ap cut (shifted).reads
