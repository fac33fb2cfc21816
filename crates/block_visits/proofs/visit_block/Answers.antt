-- `block_visits::visit_block` meets its contract. Assumes nothing.
use Prim.Native.Nat.{ℕ, ◌-◌}
use mathlib.Core.Path.{sym, ap, ◌∙◌}
use lib.ListN.{set}
use Rattle.bitstream.specs.Reading.{got}
use Rattle.huffman.specs.Code.{tree_of}
use Rattle.block_visits.specs.Visits.{TokenState, state_of}
use Rattle.block_visits.proofs.Ways.{visit_other, visit_run, visit_token, read_acts, on_state, on_same}
use Rattle.block_visits.proofs.visit_block.Goals as goal

pub returns-then-p-k : goal.returns-then-p-k
returns-then-p-k c =
    let s : TokenState =
    state_of c.args.positions.now c.args.lasts.now c.args.coefs.now c.args.run c.args.tokens in
    on_state _ _ _ _ (visit_other (tree_of c.args.nodes.now) c.args.k c.args.b (s) c.args.packet.now c.args.at c.if-p-k.true)

pub returns-then-run-gt0 : goal.returns-then-run-gt0
returns-then-run-gt0 c =
    let s : TokenState =
    state_of c.args.positions.now c.args.lasts.now c.args.coefs.now c.args.run c.args.tokens in
    on_state _ _ _ _
    (visit_run (tree_of c.args.nodes.now) c.args.k c.args.b (s) c.args.packet.now c.args.at c.if-p-k.false c.if-run-gt0.true
    ∙ ap (λ (n : ℕ). got (state_of (set c.args.positions.now c.args.b 64) (set c.args.lasts.now c.args.b n) c.args.coefs.now (c.args.run - 1) c.args.tokens) c.args.at) (sym c.if-p-k.false))

pub returns : goal.returns
returns c =
    let s : TokenState =
    state_of c.args.positions.now c.args.lasts.now c.args.coefs.now c.args.run c.args.tokens in
    let one = visit_token (tree_of c.args.nodes.now) c.args.k c.args.b (s) c.args.packet.now c.args.at c.if-p-k.false c.if-run-gt0.false in
    let two = read_acts (tree_of c.args.nodes.now) c.args.k c.args.b (s) c.args.packet.now c.args.at _ c.read_token-token.ensures in
    on_same _ _ _ _ _ (one ∙ two) c.act_on.ensures.0 c.act_on.ensures.1
