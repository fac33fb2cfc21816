-- `numeric::round_over_4` meets its contract. Assumes nothing.
use Rattle.std.proofs.Common.{arith}
use Rattle.std.proofs.lemmas.Int.{to_z-of_z}
use Rattle.numeric.proofs.RoundLaws.{round_even}
use Rattle.numeric.proofs.round_over_4.Goals as goal

pub returns : goal.returns
returns c = grind (arith, to_z-of_z, round_even 2)
