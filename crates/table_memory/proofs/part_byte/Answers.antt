-- `table_memory::part_byte` meets its contract. Assumes nothing.
use borrow.Author.Rules.{rules}
use Prim.Native.Nat.{◌-◌, ◌/◌, ◌%◌}
use native.Mathlib.Omega.{arith}
use native.Mathlib.Nat.{mod-le}
use lib.ListN.{get_or}
use Rattle.table_memory.proofs.Steps.{byte_none, byte_part, low_pos}
use Rattle.table_memory.proofs.part_byte.Goals as goal

pub returns-then-used-eq0 : goal.returns-then-used-eq0
returns-then-used-eq0 c = byte_none c.args.packet.now c.args.end (c.args.end / 8) (omega (arith, c.if-used-eq0.true))

pub returns : goal.returns
returns c = byte_part c.args.packet.now c.args.end c.if-used-eq0.false (c.shared_slice_known-1.given (c.args.end / 8)).fits
