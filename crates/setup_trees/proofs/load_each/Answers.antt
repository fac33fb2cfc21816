use Prim.Native.Nat.{◌+◌, ◌-◌, ◌*◌, ◌≤◌}
use native.Mathlib.Omega.{arith}
use borrow.Rule.Slice.PartMut.{put_mid}
use Rattle.bitstream.specs.Bits.{bits}
use Rattle.setup_trees.proofs.Loop.{Trees, trees_start, trees_free, trees_unloaded, trees_loaded, few_leaves, trees_loaded_all}
use borrow.Author.Rules.{rules}
use Rattle.bitstream.proofs.Clauses.{two}
use Rattle.setup_trees.proofs.load_each.Goals as goal

pub loop-k-init : goal.loop-k-init
loop-k-init c = (search rules, c.requires.1, trees_start c.args.count c.args.packet.now c.args.at c.args.nodes.now c.requires.3)

pub load_tree-leaves-requires : goal.load_tree-leaves-requires
load_tree-leaves-requires c = let k = c.loop-k.k * 64 in
    (c.requires.0, c.loop-k.invariant.1, trees_free _ _ _ _ _ _ c.loop-k.invariant.2 1 (omega (arith, c.loop-k-test.true)) (k + 64 - k) (omega arith))

pub returns-then-leaves-eq0 : goal.returns-then-leaves-eq0
returns-then-leaves-eq0 c = two (λ a b. record { value = a; trees_filled = b }) (trees_unloaded c.args.count c.args.packet.now c.args.at c.loop-k.place c.loop-k.k c.loop-k.nodes c.loop-k.invariant.2 c.loop-k-test.true (c.loop-k.k * 64 + 64 - c.loop-k.k * 64) (omega arith) c.load_tree-leaves.new.nodes _ c.load_tree-leaves.ensures.value c.if-leaves-eq0.true)

pub overflow_mul-place : goal.overflow_mul-place
overflow_mul-place c =
    let more : (c.loop-k.place + 7 * c.load_tree-leaves.result - 1 ≤ bits c.args.packet.now) × (c.load_tree-leaves.result ≤ 32)
    × Trees c.args.count c.args.packet.now c.args.at (c.loop-k.place + 7 * c.load_tree-leaves.result - 1) (c.loop-k.k + 1) (put_mid (c.loop-k.k * 64) (c.loop-k.k * 64 + 64 - c.loop-k.k * 64) c.loop-k.nodes c.load_tree-leaves.new.nodes) =
    let t = trees_loaded c.args.count c.args.packet.now c.args.at c.loop-k.place c.loop-k.k c.loop-k.nodes c.loop-k.invariant.2 c.loop-k-test.true (c.loop-k.k * 64 + 64 - c.loop-k.k * 64) (omega arith) c.load_tree-leaves.new.nodes c.load_tree-leaves.result c.load_tree-leaves.ensures.value c.if-leaves-eq0.false c.loop-k.invariant.1 c.load_tree-leaves.ensures.if_got in
    (t.0, few_leaves c.args.count c.args.packet.now c.args.at c.loop-k.place c.loop-k.k c.loop-k.nodes c.loop-k.invariant.2 c.loop-k-test.true (c.loop-k.k * 64 + 64 - c.loop-k.k * 64) (omega arith) c.load_tree-leaves.new.nodes c.load_tree-leaves.result c.load_tree-leaves.ensures.value, t.1) in
    record { fits = omega (arith, (more).1) }

pub overflow_add-place : goal.overflow_add-place
overflow_add-place c =
    let more : (c.loop-k.place + 7 * c.load_tree-leaves.result - 1 ≤ bits c.args.packet.now) × (c.load_tree-leaves.result ≤ 32)
    × Trees c.args.count c.args.packet.now c.args.at (c.loop-k.place + 7 * c.load_tree-leaves.result - 1) (c.loop-k.k + 1) (put_mid (c.loop-k.k * 64) (c.loop-k.k * 64 + 64 - c.loop-k.k * 64) c.loop-k.nodes c.load_tree-leaves.new.nodes) =
    let t = trees_loaded c.args.count c.args.packet.now c.args.at c.loop-k.place c.loop-k.k c.loop-k.nodes c.loop-k.invariant.2 c.loop-k-test.true (c.loop-k.k * 64 + 64 - c.loop-k.k * 64) (omega arith) c.load_tree-leaves.new.nodes c.load_tree-leaves.result c.load_tree-leaves.ensures.value c.if-leaves-eq0.false c.loop-k.invariant.1 c.load_tree-leaves.ensures.if_got in
    (t.0, few_leaves c.args.count c.args.packet.now c.args.at c.loop-k.place c.loop-k.k c.loop-k.nodes c.loop-k.invariant.2 c.loop-k-test.true (c.loop-k.k * 64 + 64 - c.loop-k.k * 64) (omega arith) c.load_tree-leaves.new.nodes c.load_tree-leaves.result c.load_tree-leaves.ensures.value, t.1) in
    record { fits = omega (arith, (more).1, c.loop-k.invariant.1, c.requires.0) }

pub loop-k-preserved : goal.loop-k-preserved
loop-k-preserved c =
    let more : (c.loop-k.place + 7 * c.load_tree-leaves.result - 1 ≤ bits c.args.packet.now) × (c.load_tree-leaves.result ≤ 32)
    × Trees c.args.count c.args.packet.now c.args.at (c.loop-k.place + 7 * c.load_tree-leaves.result - 1) (c.loop-k.k + 1) (put_mid (c.loop-k.k * 64) (c.loop-k.k * 64 + 64 - c.loop-k.k * 64) c.loop-k.nodes c.load_tree-leaves.new.nodes) =
    let t = trees_loaded c.args.count c.args.packet.now c.args.at c.loop-k.place c.loop-k.k c.loop-k.nodes c.loop-k.invariant.2 c.loop-k-test.true (c.loop-k.k * 64 + 64 - c.loop-k.k * 64) (omega arith) c.load_tree-leaves.new.nodes c.load_tree-leaves.result c.load_tree-leaves.ensures.value c.if-leaves-eq0.false c.loop-k.invariant.1 c.load_tree-leaves.ensures.if_got in
    (t.0, few_leaves c.args.count c.args.packet.now c.args.at c.loop-k.place c.loop-k.k c.loop-k.nodes c.loop-k.invariant.2 c.loop-k-test.true (c.loop-k.k * 64 + 64 - c.loop-k.k * 64) (omega arith) c.load_tree-leaves.new.nodes c.load_tree-leaves.result c.load_tree-leaves.ensures.value, t.1) in
    (omega (arith, c.loop-k-test.true), (more).0, (more).2)

pub returns : goal.returns
returns c = two (λ a b. record { value = a; trees_filled = b }) (trees_loaded_all c.args.count c.args.packet.now c.args.at c.loop-k.place c.loop-k.k c.loop-k.nodes c.loop-k.invariant.2 c.loop-k-test.false c.loop-k.invariant.0)
