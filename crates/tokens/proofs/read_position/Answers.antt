-- `tokens::read_position` meets its contract. Assumes nothing.
use Prim.Native.Nat.{ℕ, ◌+◌, ◌-◌, ◌*◌}
use native.Mathlib.Omega.{arith}
use mathlib.Core.Path.{◌≡◌, sym, ap, ◌∙◌}
use mathlib.Core.List.{List}
use lib.ListN.{length, take, drop}
use borrow.Rule.Slice.PartMut.{mid_len}
use Rattle.bitstream.specs.Reading.{Outcome, got}
use Rattle.huffman.specs.Tree.{Tree}
use Rattle.block_visits.specs.Visits.{TokenState, state_of}
use Rattle.token_visits.specs.Visits.{pass}
use Rattle.table_choices.specs.Choices.{choices_of}
use Rattle.tokens.specs.Tokens.{table}
use Rattle.tokens.specs.Answer.{trees_of, tree_at}
use Rattle.token_visits.proofs.Goes.{pass_goes, all_below}
use Rattle.tokens.proofs.Positions.{position_refused, position_got, table_is}
use Rattle.block_visits.proofs.Ways.{on_same, on_refused, visit_done, visit_refused}
use Rattle.tokens.proofs.read_position.Goals as goal

pub returns-in_default : goal.returns-in_default
returns-in_default c =
    let s : TokenState =
    state_of c.args.positions.now c.args.lasts.now c.args.coefs.now c.args.run c.args.tokens in
    let lumas : List ℕ =
    take c.args.lumas c.args.active.now in
    let chromas : List ℕ =
    take (c.args.end - c.args.luma) (drop c.args.luma c.args.active.now) in
    let one : Outcome TokenState =
    pass (tree_at c.args.nodes.now (16 * c.group_of-g.result + c.args.y)) c.args.k (lumas) (s) c.args.packet.now c.args.at in
    let by_table : pass (table (trees_of c.args.nodes.now) c.args.k c.args.y) c.args.k (lumas) (s) c.args.packet.now c.args.at ≡ one =
    ap (λ (t : Tree). pass t c.args.k (lumas) (s) c.args.packet.now c.args.at) (table_is c.args.nodes.now c.args.k c.args.y c.group_of-g.result c.group_of-g.ensures.0) in
    let g = visit_refused (one) c.pass_table-one.ensures.0 c.in_default.is in
    on_refused _ _ _ _ c.in_default.is
    (position_refused (trees_of c.args.nodes.now) (lumas) (chromas) c.args.k (choices_of c.args.y c.args.c) (s) c.args.packet.now c.args.at (by_table ∙ g))

pub pass_table-requires : goal.pass_table-requires
pass_table-requires c =
    let s : TokenState =
    state_of c.args.positions.now c.args.lasts.now c.args.coefs.now c.args.run c.args.tokens in
    let lumas : List ℕ =
    take c.args.lumas c.args.active.now in
    let one : Outcome TokenState =
    pass (tree_at c.args.nodes.now (16 * c.group_of-g.result + c.args.y)) c.args.k (lumas) (s) c.args.packet.now c.args.at in
    let by_table : pass (table (trees_of c.args.nodes.now) c.args.k c.args.y) c.args.k (lumas) (s) c.args.packet.now c.args.at ≡ one =
    ap (λ (t : Tree). pass t c.args.k (lumas) (s) c.args.packet.now c.args.at) (table_is c.args.nodes.now c.args.k c.args.y c.group_of-g.result c.group_of-g.ensures.0) in
    let s₂ : TokenState =
    state_of c.pass_table-one.new.positions c.pass_table-one.new.lasts c.pass_table-one.new.coefs c.in-Done.r c.in-Done.t in
    let first : pass (table (trees_of c.args.nodes.now) c.args.k c.args.y) c.args.k (lumas) (s) c.args.packet.now c.args.at ≡ got s₂ c.in-Done.next =
    by_table ∙ visit_done (one) c.pass_table-one.ensures.0 c.pass_table-one.new.positions c.pass_table-one.new.lasts c.pass_table-one.new.coefs c.pass_table-one.ensures.1 c.in-Done.is in
    let r = pass_goes (table (trees_of c.args.nodes.now) c.args.k c.args.y) c.args.k c.args.packet.now c.requires.packet_len_bound.4 (lumas) (s) c.args.at (all_below (length c.args.positions.now) (lumas) c.requires.lumas_le_luma.3) (first) in record {
      packet_len_bound = (c.requires.packet_len_bound.0, c.requires.packet_len_bound.1, omega (arith, c.requires.packet_len_bound.3, c.group_of-g.ensures.1), λ h. rw c.group_of-g.ensures.0 (c.requires.packet_len_bound.6.1 (omega (arith, h, mid_len c.args.luma c.args.end c.args.active.now c.requires.lumas_le_luma.2))));
      shape = (
        record { lasts = c.pass_table-one.auto.lasts ∙ c.requires.shape.0.lasts ∙ sym c.pass_table-one.auto.positions; coefs = omega (arith, c.pass_table-one.auto.positions, c.pass_table-one.auto.coefs, c.requires.shape.0.coefs); few = omega (arith, c.pass_table-one.auto.positions, c.requires.shape.0.few) },
        c.requires.packet_len_bound.4,
        rw c.pass_table-one.auto.positions c.requires.lumas_le_luma.4,
        omega (arith, r.tokens, c.requires.shape.1),
      );
    }

pub returns : goal.returns
returns c =
    let s : TokenState =
    state_of c.args.positions.now c.args.lasts.now c.args.coefs.now c.args.run c.args.tokens in
    let lumas : List ℕ =
    take c.args.lumas c.args.active.now in
    let chromas : List ℕ =
    take (c.args.end - c.args.luma) (drop c.args.luma c.args.active.now) in
    let one : Outcome TokenState =
    pass (tree_at c.args.nodes.now (16 * c.group_of-g.result + c.args.y)) c.args.k (lumas) (s) c.args.packet.now c.args.at in
    let by_table : pass (table (trees_of c.args.nodes.now) c.args.k c.args.y) c.args.k (lumas) (s) c.args.packet.now c.args.at ≡ one =
    ap (λ (t : Tree). pass t c.args.k (lumas) (s) c.args.packet.now c.args.at) (table_is c.args.nodes.now c.args.k c.args.y c.group_of-g.result c.group_of-g.ensures.0) in
    let s₂ : TokenState =
    state_of c.pass_table-one.new.positions c.pass_table-one.new.lasts c.pass_table-one.new.coefs c.in-Done.r c.in-Done.t in
    let first : pass (table (trees_of c.args.nodes.now) c.args.k c.args.y) c.args.k (lumas) (s) c.args.packet.now c.args.at ≡ got s₂ c.in-Done.next =
    by_table ∙ visit_done (one) c.pass_table-one.ensures.0 c.pass_table-one.new.positions c.pass_table-one.new.lasts c.pass_table-one.new.coefs c.pass_table-one.ensures.1 c.in-Done.is in
    on_same _ _ _ _ _
    (position_got (trees_of c.args.nodes.now) (lumas) (chromas) c.args.k (choices_of c.args.y c.args.c) (s) c.args.packet.now c.args.at (first)
    ∙ ap (λ (t : Tree). pass t c.args.k (chromas) (s₂) c.args.packet.now c.in-Done.next) (table_is c.args.nodes.now c.args.k c.args.c c.group_of-g.result c.group_of-g.ensures.0))
    c.pass_table.ensures.0 c.pass_table.ensures.1
