-- `edge_filter::column_sides` meets its contract. The loop's invariant: k of the 8 are made. Assumes nothing.
use Rattle.std.proofs.Common.{◌≡◌, ℕ, ◌<◌, length, get_or}
use Rattle.edge_filter.specs.Edge.{Pair, of_four}
use Rattle.edge_filter.proofs.column_sides.Given as goal

abbrev pub invariant-loop-k : goal.invariant-loop-k
invariant-loop-k l = (length l.r ≡ 8) × ((j : ℕ) → j < l.k → Pair (of_four l.limit (get_or l.t j 0)) (get_or l.r j 0))
