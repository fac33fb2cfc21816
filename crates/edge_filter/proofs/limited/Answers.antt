-- `edge_filter::limited` meets its contract. Assumes nothing.
use Rattle.std.proofs.Common.{arith}
use Rattle.std.proofs.lemmas.Int.{ints}
use Rattle.edge_filter.proofs.Facts.{limited_minus, limited_plus}
use Rattle.edge_filter.proofs.limited.Goals as goal

pub returns-then-r-lt0 : goal.returns-then-r-lt0
returns-then-r-lt0 c = grind (arith, ints, limited_minus)

pub returns-else-r-lt0 : goal.returns-else-r-lt0
returns-else-r-lt0 c = grind (arith, ints, limited_plus)
