-- `edge_filter::fours` meets its contract. The loop's invariant: k of the 8 are made. Assumes nothing.
use Rattle.std.proofs.Common.{◌≡◌, ℕ, ◌+◌, ◌*◌, ◌<◌, length, get_or}
use Rattle.edge_filter.specs.Edge.{Four}
use Rattle.edge_filter.proofs.fours.Given as goal

abbrev pub invariant-loop-k : goal.invariant-loop-k
invariant-loop-k l = (length l.n-items ≡ 8) × ((j : ℕ) → j < l.k → Four l.s (l.at + j * l.row) (get_or l.n-items j 0))
