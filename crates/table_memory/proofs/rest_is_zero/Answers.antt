use Prim.Native.Nat.{◌-◌, ◌/◌, ◌≤◌, ◌<◌}
use native.Mathlib.Omega.{arith}
use lib.ListN.{length}
use Rattle.table_memory.proofs.Steps.{rest_none, part_pos, part_not, Swept, swept_start, swept_more, swept_all}
use borrow.Author.Rules.{rules}
use Rattle.table_memory.proofs.rest_is_zero.Goals as goal

pub returns-then-table-end : goal.returns-then-table-end
returns-then-table-end c = rest_none c.args.table.now c.args.end c.if-table-end.true

pub returns-then-byte-part-ne0 : goal.returns-then-byte-part-ne0
returns-then-byte-part-ne0 c = part_not c.args.table.now c.args.end c.if-table-end.false c.if-byte-part-ne0.true

pub loop-k-init : goal.loop-k-init
loop-k-init c = (omega arith, omega arith, swept_start c.args.table.now c.args.end c.if-byte-part-ne0.false)

pub loop-k-preserved : goal.loop-k-preserved
loop-k-preserved c = (
  omega arith,
  omega arith,
  swept_more c.args.table.now c.args.end c.loop-k.rest c.loop-k.k c.loop-k.invariant.0 c.loop-k-test.true (c.shared_slice_known-in-loop-k-1.given c.loop-k.k).fits c.loop-k.invariant.2,
)

pub returns : goal.returns
returns c = swept_all c.args.table.now c.args.end c.loop-k.rest c.loop-k.k c.loop-k.invariant.0 c.loop-k-test.false c.loop-k.invariant.1 c.loop-k.invariant.2
