-- `quantization::read_set` meets its contract. Assumes nothing.
use Prim.Native.Nat.{◌+◌, ◌-◌, ◌*◌}
use native.Mathlib.Omega.{arith}
use Rattle.quantization.proofs.Sets.{new_answer, copy_answer}
use Rattle.quantization.proofs.read_set.Goals as goal

pub returns-then-back-eq0 : goal.returns-then-back-eq0
returns-then-back-eq0 c = new_answer c.args.count c.args.packet.now c.args.at c.args.k c.args.sizes.now c.args.indices.now c.requires.3 c.args.back (c.args.k * 64 + 64 - c.args.k * 64) (omega arith) c.requires.5 c.requires.6 c.if-back-eq0.true _ _ c.read_new.ensures.value c.read_new.ensures.set_filled c.read_new.auto.sizes c.read_new.auto.indices

pub returns : goal.returns
returns c = copy_answer c.args.count c.args.packet.now c.args.at c.args.k c.args.sizes.now c.args.indices.now c.requires.3 c.args.back c.if-back-eq0.false c.requires.4 _ _ c.copy_part.ensures c.copy_part-2.ensures
