use Prim.Native.Nat.{◌+◌, ◌-◌, ◌*◌}
use native.Mathlib.Omega.{arith}
use Rattle.setup_trees.proofs.Loop.{trees_start, trees_done, trees_refused, trees_more}
use borrow.Author.Rules.{rules}
use Rattle.bitstream.proofs.Clauses.{two}
use Rattle.setup_trees.proofs.read_trees.Goals as goal

pub loop-k-init : goal.loop-k-init
loop-k-init c = (search rules, trees_start 80 c.args.packet.now c.args.at c.args.nodes.now c.requires.1)

pub returns-in-Refused : goal.returns-in-Refused
returns-in-Refused c = two (λ a b. record { value = a; trees_filled = b }) (trees_refused 80 c.args.packet.now c.args.at c.loop-k.place c.loop-k.k c.loop-k.nodes c.loop-k.invariant.1 c.loop-k-test.true (c.loop-k.k * 64 + 64 - c.loop-k.k * 64) (omega arith) c.read_tree-one.new.nodes c.read_tree-one.ensures.value c.read_tree-one.ensures.nodes_after c.in-Refused.is)

pub loop-k-preserved : goal.loop-k-preserved
loop-k-preserved c = (
  omega (arith, c.loop-k-test.true),
  trees_more 80 c.args.packet.now c.args.at c.loop-k.place c.loop-k.k c.loop-k.nodes c.loop-k.invariant.1 c.loop-k-test.true (c.loop-k.k * 64 + 64 - c.loop-k.k * 64) (omega arith) c.read_tree-one.new.nodes c.read_tree-one.ensures.value c.read_tree-one.ensures.nodes_after c.in-At.is,
)

pub returns : goal.returns
returns c = two (λ a b. record { value = a; trees_filled = b }) (trees_done 80 c.args.packet.now c.args.at c.loop-k.place c.loop-k.k c.loop-k.nodes c.loop-k.invariant.1 c.loop-k-test.false c.loop-k.invariant.0)
