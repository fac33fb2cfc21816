-- `quantization::matrices_end` meets its contract. Assumes nothing.
use native.Mathlib.Omega.{arith}
use mathlib.Core.Path.{ap, sym}
use Rattle.bitstream.specs.Answer.{as_end}
use Rattle.quantization.proofs.Steps.{matrices_end, matrices_place}
use Rattle.quantization.proofs.matrices_end.Goals as goal

pub returns-then-left-count : goal.returns-then-left-count
returns-then-left-count c = sym (ap as_end (matrices_end c.args.count c.args.packet.now c.args.at c.requires.1 c.if-left-count.true))

pub returns : goal.returns
returns c = matrices_place c.args.count c.args.packet.now c.args.at (omega arith)
