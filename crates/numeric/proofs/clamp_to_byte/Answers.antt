-- `numeric::clamp_to_byte` meets its contract. Assumes nothing.
use Rattle.std.proofs.Common.{arith}
use Rattle.std.proofs.lemmas.Int.{to_z-of_z}
use Rattle.numeric.proofs.ClampLaws.{clamp_between}
use Rattle.numeric.proofs.clamp_to_byte.Goals as goal

pub returns : goal.returns
returns c = grind (arith, to_z-of_z, clamp_between)
