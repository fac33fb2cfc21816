-- `block_record::vector_number` meets its contract. Assumes nothing.
use Rattle.std.proofs.Common.{arith}
use Rattle.std.proofs.lemmas.Int.{ints}
use Rattle.block_record.specs.Packed.{vector_number}
use Rattle.block_record.proofs.Laws.{vector_lt}
use Rattle.block_record.proofs.vector_number.Goals as goal

pub returns : goal.returns
unfolding vector_number
returns c = grind (arith, ints, vector_lt, c.requires.x, c.requires.y)
