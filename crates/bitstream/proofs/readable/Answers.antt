-- `bitstream::readable` meets its contract: the whole packet where it is short enough, else its front. Assumes nothing.
use borrow.Author.Rules.{rules}
use Prim.Native.Nat.{◌^◌}
use native.Mathlib.Omega.{arith}
use mathlib.Core.Path.{sym}
use lib.Seq.{take_all, length-take-le}
use Rattle.bitstream.proofs.readable.Goals as goal

pub slice_bounds-result-end : goal.slice_bounds-result-end
slice_bounds-result-end c = sym (length-take-le (2 ^ 58) c.before.before.args.packet.now (omega arith))

pub returns-then-packet-le-LONGEST : goal.returns-then-packet-le-LONGEST
returns-then-packet-le-LONGEST c = sym (take_all (2 ^ 58) c.args.packet.now c.if-packet-le-LONGEST.true)
