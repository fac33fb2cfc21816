-- `theora_c::wedgepetal_block_at` meets its contract. Assumes nothing.
use borrow.Author.Rules.{rules}
use mathlib.Core.Path.{sym, ap, ◌∙◌}
use lib.ListN.{length}
use Rattle.answer_lists.specs.Lists.{block_returned}
use Rattle.session_list.proofs.Lists.{lengths, made, unmade}
use Rattle.theora_c.proofs.wedgepetal_block_at.Goals as goal

pub session_of-requires : goal.session_of-requires
session_of-requires c = (lengths 3 c.args.session.now (length c.args.block.now) (sym c.lists_refusal-k.ensures ∙ c.if-k-eq0.true)).0

pub return_block-requires : goal.return_block-requires
return_block-requires c = (lengths 3 c.args.session.now (length c.args.block.now) (sym c.lists_refusal-k.ensures ∙ c.if-k-eq0.true)).1

pub returns-then-k-eq0 : goal.returns-then-k-eq0
returns-then-k-eq0 c = made 3 c.args.session.now c.args.block.now c.lists_refusal-k.ensures _ c.if-k-eq0.true c.session_of.ensures
    (c.return_block.ensures ∙ ap (block_returned c.args.block.now) c.block_at.ensures)

pub returns : goal.returns
returns c = unmade 3 c.args.session.now c.args.block.now c.lists_refusal-k.ensures _ c.if-k-eq0.false
