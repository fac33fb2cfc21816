use Prim.Native.Nat.{ℕ, ◌-◌}
use native.Mathlib.Omega.{arith}
use native.Mathlib.Nat.{le_trans}
use mathlib.Core.Path.{◌≡◌, sym, ap, ◌∙◌}
use mathlib.Core.List.{List}
use lib.ListN.{length, take, drop}
use Rattle.bitstream.specs.Reading.{Outcome}
use Rattle.huffman.specs.Tree.{Tree}
use Rattle.huffman.specs.Code.{tree_of}
use Rattle.block_visits.specs.Visits.{TokenState, state_of}
use Rattle.token_visits.specs.Visits.{pass}
use Rattle.block_positions.specs.Answer.{due_of}
use Rattle.token_visits.proofs.Goes.{AllBelow, pass_goes, all_below, below_each}
use Rattle.token_visits.proofs.Due.{below_part, below_due, part_got, part_refused}
use Rattle.block_visits.proofs.Ways.{visit_done, visit_refused, on_refused, on_state}
use Rattle.token_visits.proofs.Ways.{pass_none}
use Rattle.token_visits.proofs.pass_blocks.Goals as goal

pub visit_blocks-one-requires : goal.visit_blocks-one-requires
visit_blocks-one-requires c =
    let part : List ℕ =
    take (c.part_end-end.result - c.loop-j.j) (drop c.loop-j.j c.args.blocks.now) in
    let ds : List ℕ =
    due_of c.args.k c.loop-j.positions part in
    let gathered : take c.gather-n.result c.gather-n.new.due ≡ ds =
    c.gather-n.ensures.0 in
    let below : AllBelow (length c.loop-j.positions) ds =
    below_due (length c.loop-j.positions) c.args.k c.loop-j.positions part (below_part (length c.loop-j.positions) c.loop-j.j (c.part_end-end.result - c.loop-j.j) c.args.blocks.now (rw c.loop-j.invariant.1 (all_below (length c.args.positions.now) c.args.blocks.now c.requires.shape.2))) in record {
      packet_len_bound = (c.requires.packet_len_bound.0, c.requires.packet_len_bound.1, c.requires.packet_len_bound.2 (omega (arith, c.loop-j-test.true)));
      shape = (
        record { lasts = c.loop-j.invariant.2 ∙ c.requires.shape.0.lasts ∙ sym c.loop-j.invariant.1; coefs = omega (arith, c.loop-j.invariant.1, c.loop-j.invariant.3, c.requires.shape.0.coefs); few = omega (arith, c.loop-j.invariant.1, c.requires.shape.0.few) },
        c.requires.shape.1,
        rw (gathered) (below_each (length c.loop-j.positions) (ds) (below)),
        omega (arith, c.loop-j.invariant.4, c.requires.shape.3),
      );
    }

pub returns-in_default : goal.returns-in_default
returns-in_default c =
    let s : TokenState =
    state_of c.loop-j.positions c.loop-j.lasts c.loop-j.coefs c.loop-j.left c.loop-j.count in
    let tree : Tree =
    tree_of c.args.nodes.now in
    let part : List ℕ =
    take (c.part_end-end.result - c.loop-j.j) (drop c.loop-j.j c.args.blocks.now) in
    let ds : List ℕ =
    due_of c.args.k c.loop-j.positions part in
    let gathered : take c.gather-n.result c.gather-n.new.due ≡ ds =
    c.gather-n.ensures.0 in
    let o : Outcome TokenState =
    pass tree c.args.k ds s c.args.packet.now c.loop-j.place in
    let same : pass tree c.args.k (take c.gather-n.result c.gather-n.new.due) s c.args.packet.now c.loop-j.place ≡ o =
    ap (λ (x : List ℕ). pass tree c.args.k x s c.args.packet.now c.loop-j.place) gathered in
    let g = sym (same) ∙ visit_refused (pass (tree) c.args.k (take c.gather-n.result c.gather-n.new.due) (s) c.args.packet.now c.loop-j.place) c.visit_blocks-one.ensures.0 c.in_default.is in
    on_refused _ _ _ _ c.in_default.is (c.loop-j.invariant.5 ∙ part_refused (tree) c.args.k c.args.packet.now c.requires.shape.1 c.args.blocks.now c.loop-j.j c.part_end-end.result (s) c.loop-j.place (omega (arith, c.part_end-end.ensures)) g)

pub loop-j-preserved : goal.loop-j-preserved
loop-j-preserved c =
    let s : TokenState =
    state_of c.loop-j.positions c.loop-j.lasts c.loop-j.coefs c.loop-j.left c.loop-j.count in
    let tree : Tree =
    tree_of c.args.nodes.now in
    let part : List ℕ =
    take (c.part_end-end.result - c.loop-j.j) (drop c.loop-j.j c.args.blocks.now) in
    let ds : List ℕ =
    due_of c.args.k c.loop-j.positions part in
    let gathered : take c.gather-n.result c.gather-n.new.due ≡ ds =
    c.gather-n.ensures.0 in
    let below : AllBelow (length c.loop-j.positions) ds =
    below_due (length c.loop-j.positions) c.args.k c.loop-j.positions part (below_part (length c.loop-j.positions) c.loop-j.j (c.part_end-end.result - c.loop-j.j) c.args.blocks.now (rw c.loop-j.invariant.1 (all_below (length c.args.positions.now) c.args.blocks.now c.requires.shape.2))) in
    let o : Outcome TokenState =
    pass tree c.args.k ds s c.args.packet.now c.loop-j.place in
    let same : pass tree c.args.k (take c.gather-n.result c.gather-n.new.due) s c.args.packet.now c.loop-j.place ≡ o =
    ap (λ (x : List ℕ). pass tree c.args.k x s c.args.packet.now c.loop-j.place) gathered in
    let g = sym (same) ∙ visit_done (pass (tree) c.args.k (take c.gather-n.result c.gather-n.new.due) (s) c.args.packet.now c.loop-j.place) c.visit_blocks-one.ensures.0 c.visit_blocks-one.new.positions c.visit_blocks-one.new.lasts c.visit_blocks-one.new.coefs c.visit_blocks-one.ensures.1 c.in-Done.is in
    let r = pass_goes (tree) c.args.k c.args.packet.now c.requires.shape.1 (ds) (s) c.loop-j.place (below) g in (
      c.part_end-end.ensures.1,
      c.visit_blocks-one.auto.positions ∙ c.loop-j.invariant.1,
      c.visit_blocks-one.auto.lasts ∙ c.loop-j.invariant.2,
      c.visit_blocks-one.auto.coefs ∙ c.loop-j.invariant.3,
      le_trans r.tokens c.loop-j.invariant.4,
      c.loop-j.invariant.5 ∙ part_got (tree) c.args.k c.args.packet.now c.requires.shape.1 c.args.blocks.now c.loop-j.j c.part_end-end.result (s) c.loop-j.place (omega (arith, c.part_end-end.ensures)) g,
      c.gather-n.auto.due ∙ c.loop-j.invariant.6,
    )

pub returns : goal.returns
returns c = on_state _ _ _ _ (c.loop-j.invariant.5 ∙ pass_none (tree_of c.args.nodes.now) c.args.k c.args.blocks.now c.loop-j.j (state_of c.loop-j.positions c.loop-j.lasts c.loop-j.coefs c.loop-j.left c.loop-j.count) c.args.packet.now c.loop-j.place c.loop-j-test.false)
