use native.Mathlib.Omega.{arith}
use native.Mathlib.Nat.{le_trans}
use mathlib.Core.Path.{◌∙◌}
use lib.ListN.{get_or}
use Rattle.bitstream.specs.Reading.{Outcome}
use Rattle.huffman.specs.Tree.{Tree}
use Rattle.huffman.specs.Code.{tree_of}
use Rattle.block_visits.specs.Visits.{TokenState, state_of, visit}
use Rattle.token_visits.proofs.Goes.{visit_goes}
use Rattle.block_visits.proofs.Ways.{visit_done, visit_refused, on_refused, on_state}
use Rattle.token_visits.proofs.Ways.{pass_none, pass_got, pass_refused}
use Rattle.token_visits.proofs.visit_blocks.Goals as goal

pub returns-in_default : goal.returns-in_default
returns-in_default c =
    let s : TokenState =
    state_of c.loop-j.positions c.loop-j.lasts c.loop-j.coefs c.loop-j.left c.loop-j.count in
    let tree : Tree =
    tree_of c.args.nodes.now in
    let o : Outcome TokenState =
    visit tree c.args.k (get_or c.args.blocks.now c.loop-j.j 0) s c.args.packet.now c.loop-j.place in
    let g = visit_refused (o) c.visit_block-one.ensures.0 c.in_default.is in
    on_refused _ _ _ _ c.in_default.is (c.loop-j.invariant.5 ∙ pass_refused (tree) c.args.k c.args.blocks.now c.loop-j.j (s) c.args.packet.now c.loop-j.place c.loop-j-test.true g)

pub loop-j-preserved : goal.loop-j-preserved
loop-j-preserved c =
    let s : TokenState =
    state_of c.loop-j.positions c.loop-j.lasts c.loop-j.coefs c.loop-j.left c.loop-j.count in
    let tree : Tree =
    tree_of c.args.nodes.now in
    let o : Outcome TokenState =
    visit tree c.args.k (get_or c.args.blocks.now c.loop-j.j 0) s c.args.packet.now c.loop-j.place in
    let g = visit_done (o) c.visit_block-one.ensures.0 c.visit_block-one.new.positions c.visit_block-one.new.lasts c.visit_block-one.new.coefs c.visit_block-one.ensures.1 c.in-Done.is in
    let r = visit_goes (tree) c.args.k (get_or c.args.blocks.now c.loop-j.j 0) (s) c.args.packet.now c.loop-j.place c.requires.shape.1 (omega (arith, c.requires.shape.2.each c.loop-j.j c.loop-j-test.true, c.loop-j.invariant.1)) g in (
      omega arith,
      c.visit_block-one.auto.positions ∙ c.loop-j.invariant.1,
      c.visit_block-one.auto.lasts ∙ c.loop-j.invariant.2,
      c.visit_block-one.auto.coefs ∙ c.loop-j.invariant.3,
      le_trans r.tokens c.loop-j.invariant.4,
      c.loop-j.invariant.5 ∙ pass_got (tree) c.args.k c.args.blocks.now c.loop-j.j (s) c.args.packet.now c.loop-j.place c.loop-j-test.true g,
    )

pub returns : goal.returns
returns c = on_state _ _ _ _ (c.loop-j.invariant.5 ∙ pass_none (tree_of c.args.nodes.now) c.args.k c.args.blocks.now c.loop-j.j (state_of c.loop-j.positions c.loop-j.lasts c.loop-j.coefs c.loop-j.left c.loop-j.count) c.args.packet.now c.loop-j.place c.loop-j-test.false)
