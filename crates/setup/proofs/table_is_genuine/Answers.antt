-- `setup::table_is_genuine` meets its contract. Assumes nothing.
use mathlib.Core.Path.{◌∙◌}
use Rattle.bitstream.proofs.Ends.{end_refused, end_at}
use mathlib.Core.Bool.{false}
use Rattle.setup.specs.Header.{Setup, setup_header}
use Rattle.setup_trees.specs.Answer.{told}
use Rattle.setup.proofs.Steps.{told_refused, told_got}
use Rattle.setup.proofs.Calls.{not_length, not_read, is_read, both}
use Rattle.bitstream.proofs.Clauses.{two}
use Rattle.setup.proofs.table_is_genuine.Goals as goal

pub returns-in-Refused : goal.returns-in-Refused
returns-in-Refused c = two (λ a b. record { value = a; left_by_some = b }) (both c.args.table.now (λ k h. (c.type_inv.table k).fits) _ (not_read c.args.table.now c.if-table-ne-TABLE_BYTES.false (told_refused {B = Setup} false (setup_header c.args.table.now 0) (end_refused (told false (setup_header c.args.table.now 0)) c.scan.ensures c.in-Refused.is)).2))

pub returns-in-At : goal.returns-in-At
returns-in-At c = let g = end_at (told false (setup_header c.args.table.now 0)) c.scan.ensures c.in-At.is in two (λ a b. record { value = a; left_by_some = b }) (both c.args.table.now (λ k h. (c.type_inv.table k).fits) _ (c.rest_is_zero.ensures ∙ is_read c.args.table.now c.if-table-ne-TABLE_BYTES.false (told_got false (setup_header c.args.table.now 0) g.1)))

pub returns-then-table-ne-TABLE_BYTES : goal.returns-then-table-ne-TABLE_BYTES
returns-then-table-ne-TABLE_BYTES c = two (λ a b. record { value = a; left_by_some = b }) (both c.args.table.now (λ k h. (c.type_inv.table k).fits) _ (not_length c.args.table.now c.if-table-ne-TABLE_BYTES.true))
