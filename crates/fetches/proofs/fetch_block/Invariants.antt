-- `fetches::fetch_block` meets its contract. The loop's invariant: the first i means are made.
-- Assumes nothing.
use Rattle.std.proofs.Common.{◌≡◌, ℕ, ◌<◌, ◌/◌, ◌%◌, length, get_or}
use Rattle.fetches.specs.Fetched.{mean_at}
use Rattle.fetches.proofs.fetch_block.Given as goal

abbrev pub invariant-loop-i : goal.invariant-loop-i
invariant-loop-i l = (length l.m ≡ 64) × ((j : ℕ) → j < l.i → get_or l.m j 0 ≡ mean_at l.plane l.s l.t (j % 8) (j / 8))
