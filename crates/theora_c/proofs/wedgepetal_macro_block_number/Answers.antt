-- `theora_c::wedgepetal_macro_block_number` meets its contract. Assumes nothing.
use borrow.Author.Rules.{rules}
use mathlib.Core.Path.{sym, ap, ◌∙◌}
use lib.ListN.{length}
use Rattle.answer_lists.specs.Lists.{number_returned}
use Rattle.session_list.proofs.Lists.{lengths, made, unmade}
use Rattle.theora_c.proofs.wedgepetal_macro_block_number.Goals as goal

pub session_of-requires : goal.session_of-requires
session_of-requires c = (lengths 1 c.args.session.now (length c.args.number.now) (sym c.lists_refusal-k.ensures ∙ c.if-k-eq0.true)).0

pub return_number-requires : goal.return_number-requires
return_number-requires c = (lengths 1 c.args.session.now (length c.args.number.now) (sym c.lists_refusal-k.ensures ∙ c.if-k-eq0.true)).1

pub returns-then-k-eq0 : goal.returns-then-k-eq0
returns-then-k-eq0 c = made 1 c.args.session.now c.args.number.now c.lists_refusal-k.ensures _ c.if-k-eq0.true c.session_of.ensures
    (c.return_number.ensures ∙ ap (number_returned c.args.number.now) c.macro_block_number.ensures)

pub returns : goal.returns
returns c = unmade 1 c.args.session.now c.args.number.now c.lists_refusal-k.ensures _ c.if-k-eq0.false
