-- `numeric::round_over` meets its contract: 2 x with d added on the side of its sign, over 2 d. Assumes nothing.
use Rattle.std.proofs.Common.{arith}
use Rattle.std.proofs.lemmas.Int.{to_z-of_z, to_z_pos}
use Rattle.numeric.proofs.RoundLaws.{round_below, round_above}
use Rattle.numeric.proofs.round_over.Goals as goal

pub returns-then-x-lt0 : goal.returns-then-x-lt0
returns-then-x-lt0 c = grind (arith, to_z-of_z, to_z_pos, round_below)

pub returns-else-x-lt0 : goal.returns-else-x-lt0
returns-else-x-lt0 c = grind (arith, to_z-of_z, to_z_pos, round_above)
