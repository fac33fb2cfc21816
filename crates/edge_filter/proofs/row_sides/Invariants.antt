-- `edge_filter::row_sides` meets its contract. The loop's invariant: k of the 8 are made. Assumes nothing.
use Rattle.std.proofs.Common.{◌≡◌, ℕ, ◌+◌, ◌<◌, length, get_or}
use Rattle.edge_filter.specs.Edge.{crossed}
use Rattle.edge_filter.proofs.row_sides.Given as goal

abbrev pub invariant-loop-k : goal.invariant-loop-k
invariant-loop-k l = (length l.t ≡ 16) × ((j : ℕ) → j < l.k → (get_or l.t j 0 ≡ (crossed l.limit l.at 1 l.row l.s j).0) × (get_or l.t (8 + j) 0 ≡ (crossed l.limit l.at 1 l.row l.s j).1))
