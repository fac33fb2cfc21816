-- `numeric::cut16` meets its contract: the mask gives the low 16 bits. Assumes nothing.
use Rattle.std.proofs.Common.{arith, w32}
use Rattle.std.proofs.lemmas.Int.{to_z-of_z, to_z_pos}
use Rattle.numeric.specs.Cut.{read16, cut}
use Rattle.numeric.proofs.CutLaws.{mask, mod16_le}
use Rattle.numeric.proofs.cut16.Goals as goal

pub returns : goal.returns
unfolding cut read16
returns c =
    let e = mask w32 c.args.x tt c.ranges.x in
    let h = mod16_le c.args.x in
    grind (arith, to_z-of_z, to_z_pos)
