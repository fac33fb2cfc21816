-- `answer_lists::table_number` meets its contract. Assumes nothing.
use mathlib.Core.Path.{sym, ◌∙◌}
use Rattle.answer_lists.proofs.Lists.{table_tested, table_length}
use Rattle.answer_lists.proofs.table_number.Goals as goal

pub returns-then-table_is_genuine : goal.returns-then-table_is_genuine
returns-then-table_is_genuine c = table_tested c.args.table.now c.if-table-eq-TABLE_BYTES.true (sym c.if-table_is_genuine.true ∙ c.table_is_genuine.ensures.value)

pub returns-then-table-eq-TABLE_BYTES : goal.returns-then-table-eq-TABLE_BYTES
returns-then-table-eq-TABLE_BYTES c = table_tested c.args.table.now c.if-table-eq-TABLE_BYTES.true (sym c.if-table_is_genuine.false ∙ c.table_is_genuine.ensures.value)

pub returns : goal.returns
returns c = table_length c.args.table.now c.if-table-eq-TABLE_BYTES.false
