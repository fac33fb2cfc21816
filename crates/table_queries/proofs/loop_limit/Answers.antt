-- `table_queries::loop_limit` meets its contract. Assumes nothing.
use mathlib.Core.Path.{sym, ap}
use Rattle.queries.specs.Orders.{as_number}
use Rattle.table_queries.proofs.SetupLaws.{limit_1, limit_8, limit_is, limit_absent}
use Rattle.table_queries.proofs.loop_limit.Goals as goal

pub returns-then-table-ne-TABLE_BYTES : goal.returns-then-table-ne-TABLE_BYTES
returns-then-table-ne-TABLE_BYTES c = sym (ap as_number (limit_1 c.args.table.now c.args.qi c.if-table-ne-TABLE_BYTES.true))

pub returns-then-qi-lt64 : goal.returns-then-qi-lt64
returns-then-qi-lt64 c = sym (ap as_number (limit_is c.args.table.now c.load_table-answer.ensures c.in-At.is c.args.qi c.if-table-ne-TABLE_BYTES.false c.if-qi-lt64.true))

pub returns-in-Refused : goal.returns-in-Refused
returns-in-Refused c = sym (ap as_number (limit_8 c.args.table.now c.args.qi c.if-table-ne-TABLE_BYTES.false c.load_table-answer.ensures c.in-Refused.is))

pub returns-else-qi-lt64 : goal.returns-else-qi-lt64
returns-else-qi-lt64 c = sym (ap as_number (limit_absent c.args.table.now c.load_table-answer.ensures c.in-At.is c.args.qi c.if-table-ne-TABLE_BYTES.false c.if-qi-lt64.false))
