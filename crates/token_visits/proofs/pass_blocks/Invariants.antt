-- `token_visits::pass_blocks` meets its contract. The invariant: the pass from the start is the pass over the blocks that are left, from what is stored. Assumes nothing.
use Prim.Native.Nat.{◌+◌, ◌-◌, ◌≤◌}
use mathlib.Core.Path.{◌≡◌}
use lib.ListN.{length, drop}
use Rattle.huffman.specs.Code.{tree_of}
use Rattle.block_visits.specs.Visits.{state_of}
use Rattle.token_visits.specs.Visits.{pass}
use Rattle.token_visits.specs.Answer.{room}
use Rattle.token_visits.proofs.pass_blocks.Given as goal

abbrev pub invariant-loop-j : goal.invariant-loop-j
invariant-loop-j l = (l.j ≤ length l.blocks) × (length l.positions ≡ length l.initial.positions) × (length l.lasts ≡ length l.initial.lasts) × (length l.coefs ≡ length l.initial.coefs)
    × (l.count + room l.positions ≤ l.tokens + room l.initial.positions)
    × (pass (tree_of l.nodes) l.k l.blocks (state_of l.initial.positions l.initial.lasts l.initial.coefs l.run l.tokens) l.packet l.at ≡ pass (tree_of l.nodes) l.k (drop l.j l.blocks) (state_of l.positions l.lasts l.coefs l.left l.count) l.packet l.place)
    × (length l.due ≡ length l.initial.due)

abbrev pub decreases-loop-j : goal.decreases-loop-j
decreases-loop-j l = length l.blocks - l.j
