-- `tokens::read_positions` meets its contract. The invariant: all positions from the start are the positions that are left, from what is stored; and the two lists hold the unfinished blocks. Assumes nothing.
use Prim.Native.Nat.{◌+◌, ◌-◌, ◌<◌, ◌≤◌}
use mathlib.Core.Path.{◌≡◌}
use lib.ListN.{length}
use Rattle.block_visits.specs.Visits.{state_of}
use Rattle.table_choices.specs.Choices.{choices_of}
use Rattle.tokens.specs.Tokens.{positions_from, ranks}
use Rattle.token_visits.specs.Answer.{room}
use Rattle.tokens.specs.Answer.{trees_of, Current}
use Rattle.tokens.proofs.Lists.{Lists}
use Rattle.tokens.proofs.read_positions.Given as goal

abbrev pub invariant-loop-k : goal.invariant-loop-k
invariant-loop-k l = (l.k ≤ 64) × (length l.positions ≡ length l.initial.positions) × (length l.lasts ≡ length l.initial.lasts) × (length l.coefs ≡ length l.initial.coefs) × (length l.active ≡ length l.initial.active) × (l.y < 16) × (l.c < 16)
    × (l.count + room l.positions ≤ room l.initial.positions) × Lists (length l.initial.positions) l.positions l.active l.luma l.lumas l.end
    × (positions_from (trees_of l.nodes) (ranks 0 l.luma) (ranks l.luma (length l.initial.positions - l.luma)) 64 0 (choices_of 0 0) (state_of l.initial.positions l.initial.lasts l.initial.coefs 0 0) l.packet l.at
    ≡ positions_from (trees_of l.nodes) (ranks 0 l.luma) (ranks l.luma (length l.initial.positions - l.luma)) (64 - l.k) l.k (choices_of l.y l.c) (state_of l.positions l.lasts l.coefs l.left l.count) l.packet l.place)
    × Current l.nodes l.k l.y l.lumas l.luma_lookup × Current l.nodes l.k l.c (l.end - l.luma) l.chroma_lookup

abbrev pub decreases-loop-k : goal.decreases-loop-k
decreases-loop-k l = 64 - l.k
