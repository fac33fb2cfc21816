-- `edge_filter::write_pairs` meets its contract. The loop's invariant: k of the 8 are written. Assumes nothing.
use Rattle.std.proofs.Common.{◌≡◌, ℕ, ◌+◌, ◌*◌, ◌/◌, ◌%◌, List, get_or, set}
use Rattle.ways.specs.Loops.{up_to}
use Rattle.edge_filter.proofs.write_pairs.Given as goal

-- pair k, in its row
abbrev pub put : List ℕ → ℕ → ℕ → ℕ → List ℕ → List ℕ
put r at row k s = set (set s (at + k * row + 1) (get_or r k 0 % 256)) (at + k * row + 2) (get_or r k 0 / 256)

abbrev pub invariant-loop-k : goal.invariant-loop-k
invariant-loop-k l = l.s ≡ up_to l.k (put l.r l.at l.row) l.initial.s
