-- `tokens::pass_table` meets its contract. Assumes nothing.
use Prim.Native.Nat.{ℕ, ◌*◌}
use native.Mathlib.Omega.{arith}
use mathlib.Core.Path.{refl, sym, ap, ◌∙◌}
use lib.ListN.{take, drop}
use Rattle.huffman.specs.Tree.{Tree}
use Rattle.huffman.specs.Code.{tree_of}
use Rattle.block_visits.specs.Visits.{state_of}
use Rattle.token_visits.specs.Visits.{pass}
use Rattle.tokens.specs.Answer.{tree_at}
use Rattle.tokens.proofs.Tables.{formed_at, tree_at_law, nodes_long, wide}
use Rattle.block_visits.proofs.Ways.{on_state, on_same}
use Rattle.token_visits.proofs.Ways.{pass_none}
use Rattle.tokens.proofs.pass_table.Goals as goal

-- no block: nothing is read
pub returns-then-blocks-eq0 : goal.returns-then-blocks-eq0
returns-then-blocks-eq0 c = let s = state_of c.args.positions.now c.args.lasts.now c.args.coefs.now c.args.run c.args.tokens in
    on_state c.args.positions.now c.args.lasts.now c.args.coefs.now _ (pass_none (tree_at c.args.nodes.now c.args.j) c.args.k c.args.blocks.now 0 s c.args.packet.now c.args.at (omega (arith, c.if-blocks-eq0.true)))

pub returns : goal.returns
returns c = let s = state_of c.args.positions.now c.args.lasts.now c.args.coefs.now c.args.run c.args.tokens in
    on_same _ _ _ _ _
    (ap (λ (t : Tree). pass t c.args.k c.args.blocks.now s c.args.packet.now c.args.at)
    (tree_at_law c.args.nodes.now c.args.j c.requires.packet_len_bound.2 ∙ ap (λ (n : ℕ). tree_of (take n (drop (64 * c.args.j) c.args.nodes.now))) (sym (wide c.args.j))))
    c.pass_blocks.ensures.0 c.pass_blocks.ensures.1

pub slice_bounds-pass_blocks-end : goal.slice_bounds-pass_blocks-end
slice_bounds-pass_blocks-end c = omega (arith, nodes_long c.args.nodes.now c.requires.packet_len_bound.1, c.requires.packet_len_bound.2)

pub pass_blocks-requires-clause-packet_len_bound : goal.pass_blocks-requires-clause-packet_len_bound
pass_blocks-requires-clause-packet_len_bound c =
    let p = c.requires.packet_len_bound in
    (p.0, rw (wide c.args.j) (formed_at c.args.nodes.now p.1 c.args.j p.2), λ h. rw (wide c.args.j) (p.3 h), refl)
