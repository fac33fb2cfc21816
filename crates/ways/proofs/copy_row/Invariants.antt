-- `ways::copy_row` meets its contract. The loop's invariant: c of the 8 samples are copied.
-- Assumes nothing.
use Rattle.std.proofs.Common.{◌≡◌, ◌+◌, get_or, set}
use Rattle.ways.specs.Loops.{up_to}
use Rattle.ways.proofs.copy_row.Given as goal

abbrev pub invariant-loop-c : goal.invariant-loop-c
invariant-loop-c l = l.new ≡ up_to l.c (λ c s. set s (l.at + c) (get_or l.t (l.k + c) 0)) l.fn.new
