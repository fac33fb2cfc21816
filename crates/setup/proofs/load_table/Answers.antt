-- `setup::load_table` meets its contract. Assumes nothing.
use mathlib.Core.Path.{sym, ◌∙◌}
use Rattle.bitstream.proofs.Ends.{end_refused, end_at}
use mathlib.Core.Bool.{false}
use Rattle.setup.specs.Header.{Setup, setup_header}
use Rattle.setup_trees.specs.Answer.{told}
use Rattle.setup.proofs.Steps.{told_refused, told_got}
use Rattle.setup.proofs.Calls.{not_length, not_read, is_read, held_not, held_is, filled_read}
use Rattle.setup.proofs.load_table.Goals as goal

pub returns-then-table-ne-TABLE_BYTES : goal.returns-then-table-ne-TABLE_BYTES
returns-then-table-ne-TABLE_BYTES c = held_not c.args.table.now (not_length c.args.table.now c.if-table-ne-TABLE_BYTES.true) c.not_read.ensures

pub returns-then-rest_is_zero : goal.returns-then-rest_is_zero
returns-then-rest_is_zero c =
    let g = end_at (told false (setup_header c.args.table.now 0)) c.load-read.ensures.place c.in-At.is in
    let h = told_got false (setup_header c.args.table.now 0) g.1 in
    held_is c.args.table.now (sym c.if-rest_is_zero.true ∙ c.rest_is_zero.ensures ∙ is_read c.args.table.now c.if-table-ne-TABLE_BYTES.false h)
    (filled_read (setup_header c.args.table.now 0) h _ c.load-read.ensures.place c.load-read.ensures.loaded)

pub returns-in-Refused : goal.returns-in-Refused
returns-in-Refused c =
    let g = end_refused (told false (setup_header c.args.table.now 0)) c.load-read.ensures.place c.in-Refused.is in
    held_not c.args.table.now (not_read c.args.table.now c.if-table-ne-TABLE_BYTES.false (told_refused {B = Setup} false (setup_header c.args.table.now 0) g).2) c.not_read-in-Refused.ensures

pub returns-else-rest_is_zero : goal.returns-else-rest_is_zero
returns-else-rest_is_zero c =
    let g = end_at (told false (setup_header c.args.table.now 0)) c.load-read.ensures.place c.in-At.is in
    held_not c.args.table.now (sym c.if-rest_is_zero.false ∙ c.rest_is_zero.ensures ∙ is_read c.args.table.now c.if-table-ne-TABLE_BYTES.false (told_got false (setup_header c.args.table.now 0) g.1))
    c.not_read-in-At.ensures
