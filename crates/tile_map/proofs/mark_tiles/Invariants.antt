-- `tile_map::mark_tiles` meets its contract. The loop's invariant: x tiles are marked, the others are as they were. Assumes nothing.
use Rattle.std.proofs.Common.{◌≡◌, ℕ, ◌≤◌, ◌<◌, get_or}
use Rattle.tile_map.proofs.Strips.{marked_at}
use Rattle.tile_map.proofs.mark_tiles.Given as goal

abbrev pub invariant-loop-x : goal.invariant-loop-x
invariant-loop-x l = ((i : ℕ) → i < l.x → get_or l.map i 0 ≡ marked_at l.previous l.new l.from l.row l.tile l.initial.map i) × ((i : ℕ) → l.x ≤ i → get_or l.map i 0 ≡ get_or l.initial.map i 0)
