use native.Mathlib.Omega.{arith}
use mathlib.Core.Path.{refl}
use Prim.Native.Nat.{◌+◌, ◌-◌, ◌*◌}
use Rattle.setup_trees.proofs.Loop.{trees_start, trees_free, trees_loaded_all, pair_refused, pair_more}
use Rattle.bitstream.proofs.Clauses.{two}
use Rattle.setup_trees.proofs.load_trees.Goals as goal

pub loop-k-init : goal.loop-k-init
loop-k-init c = (omega arith, refl, c.requires.1, trees_start 80 c.args.packet.now c.args.at c.args.nodes.now c.requires.2)

pub load_two-both-requires : goal.load_two-both-requires
load_two-both-requires c = let k = c.loop-k.k * 64 in
    (c.requires.0, c.loop-k.invariant.2, trees_free 80 c.args.packet.now c.args.at c.loop-k.place c.loop-k.k c.loop-k.nodes c.loop-k.invariant.3 2 (omega (arith, c.loop-k.invariant.1, c.loop-k-test.true)) (k + 128 - k) (omega arith))

pub returns-in-Refused : goal.returns-in-Refused
returns-in-Refused c = two (λ a b. record { value = a; trees_filled = b }) (pair_refused 80 c.args.packet.now c.args.at c.loop-k.place c.loop-k.k c.loop-k.nodes c.loop-k.invariant.3 (omega (arith, c.loop-k.invariant.1, c.loop-k-test.true)) (c.loop-k.k * 64 + 128 - c.loop-k.k * 64) (omega arith) c.load_two-both.new.nodes c.load_two-both.ensures.value c.in-Refused.is)

pub loop-k-preserved : goal.loop-k-preserved
loop-k-preserved c = let m = pair_more 80 c.args.packet.now c.args.at c.loop-k.place c.loop-k.k c.loop-k.nodes c.loop-k.invariant.3 (omega (arith, c.loop-k.invariant.1, c.loop-k-test.true)) (c.loop-k.k * 64 + 128 - c.loop-k.k * 64) (omega arith) c.load_two-both.new.nodes c.load_two-both.ensures.value c.in-At.is c.loop-k.invariant.2 c.load_two-both.ensures.trees_filled in
    (omega (arith, c.loop-k.invariant.1, c.loop-k-test.true), omega (arith, c.loop-k.invariant.1), m.0, m.1)

pub returns : goal.returns
returns c = two (λ a b. record { value = a; trees_filled = b }) (trees_loaded_all 80 c.args.packet.now c.args.at c.loop-k.place c.loop-k.k c.loop-k.nodes c.loop-k.invariant.3 c.loop-k-test.false c.loop-k.invariant.0)
