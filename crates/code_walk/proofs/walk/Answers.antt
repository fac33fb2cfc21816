use Prim.Native.Nat.{ℕ, ◌+◌, ◌*◌, ◌^◌, ◌<◌}
use native.Mathlib.Omega.{arith}
use mathlib.Core.Path.{◌≡◌, refl, sym, ap, ◌∙◌}
use lib.ListN.{length, get_or}
use Rattle.huffman.specs.Code.{tree_of}
use Rattle.code_walk.specs.Walk.{branch, entry_in}
use Rattle.huffman.proofs.Nodes.{formed_length}
use Rattle.code_walk.proofs.Walks.{Below, below_start, below_leaf, below_on}
use Rattle.code_walk.proofs.walk.Goals as goal

pub bounds-nodes-node : goal.bounds-nodes-node
bounds-nodes-node c = omega (arith, formed_length c.requires.0)

pub loop-value-init : goal.loop-value-init
loop-value-init c = (refl, omega arith, formed_length c.requires.0, below_start c.args.nodes.now c.args.values.now c.args.window c.args.from c.requires.0)

pub bounds-nodes-node-in-loop-value : goal.bounds-nodes-node-in-loop-value
bounds-nodes-node-in-loop-value c =
    let onward : (c.loop-value.node < c.next_node-node.result) × (c.next_node-node.result < length c.args.nodes.now) × (c.loop-value.taken < 31) × Below c.args.nodes.now c.args.values.now c.args.window c.args.from c.next_node-node.result (c.loop-value.taken + 1) =
    below_on c.args.nodes.now c.args.values.now c.args.window c.args.from c.loop-value.node c.loop-value.taken c.loop-value.value _ c.loop-value.invariant.3 c.loop-value.invariant.0 c.loop-value-test.true
    (c.next_node-node.ensures ∙ ap (λ (b : ℕ). branch c.loop-value.node c.loop-value.value b) c.bit_of.ensures) in
    omega (arith, (onward).1)

pub loop-value-smaller : goal.loop-value-smaller
loop-value-smaller c =
    let onward : (c.loop-value.node < c.next_node-node.result) × (c.next_node-node.result < length c.args.nodes.now) × (c.loop-value.taken < 31) × Below c.args.nodes.now c.args.values.now c.args.window c.args.from c.next_node-node.result (c.loop-value.taken + 1) =
    below_on c.args.nodes.now c.args.values.now c.args.window c.args.from c.loop-value.node c.loop-value.taken c.loop-value.value _ c.loop-value.invariant.3 c.loop-value.invariant.0 c.loop-value-test.true
    (c.next_node-node.ensures ∙ ap (λ (b : ℕ). branch c.loop-value.node c.loop-value.value b) c.bit_of.ensures) in
    omega (arith, (onward).0, (onward).1)

pub loop-value-preserved : goal.loop-value-preserved
loop-value-preserved c =
    let onward : (c.loop-value.node < c.next_node-node.result) × (c.next_node-node.result < length c.args.nodes.now) × (c.loop-value.taken < 31) × Below c.args.nodes.now c.args.values.now c.args.window c.args.from c.next_node-node.result (c.loop-value.taken + 1) =
    below_on c.args.nodes.now c.args.values.now c.args.window c.args.from c.loop-value.node c.loop-value.taken c.loop-value.value _ c.loop-value.invariant.3 c.loop-value.invariant.0 c.loop-value-test.true
    (c.next_node-node.ensures ∙ ap (λ (b : ℕ). branch c.loop-value.node c.loop-value.value b) c.bit_of.ensures) in
    let o = onward in
    (refl, omega (arith, o.1, c.loop-value.invariant.2), c.loop-value.invariant.2, o.3)

pub bounds-values-value : goal.bounds-values-value
bounds-values-value c =
    let ended : (get_or c.args.nodes.now c.loop-value.node 0 < 32) × (entry_in (tree_of c.args.nodes.now) c.args.values.now c.args.window c.args.from 0 ≡ get_or c.args.values.now (get_or c.args.nodes.now c.loop-value.node 0) 0 + c.loop-value.taken * 2 ^ 36) =
    below_leaf c.args.nodes.now c.args.values.now c.args.window c.args.from c.loop-value.node c.loop-value.taken c.loop-value.invariant.3 (omega (arith, c.loop-value.invariant.0, c.loop-value-test.false)) in
    omega (arith, (ended).0, c.loop-value.invariant.0, c.requires.1.size)

pub returns : goal.returns
returns c =
    let ended : (get_or c.args.nodes.now c.loop-value.node 0 < 32) × (entry_in (tree_of c.args.nodes.now) c.args.values.now c.args.window c.args.from 0 ≡ get_or c.args.values.now (get_or c.args.nodes.now c.loop-value.node 0) 0 + c.loop-value.taken * 2 ^ 36) =
    below_leaf c.args.nodes.now c.args.values.now c.args.window c.args.from c.loop-value.node c.loop-value.taken c.loop-value.invariant.3 (omega (arith, c.loop-value.invariant.0, c.loop-value-test.false)) in
    ap (λ (t : ℕ). get_or c.args.values.now t 0 + c.loop-value.taken * 2 ^ 36) c.loop-value.invariant.0 ∙ sym (ended).1
