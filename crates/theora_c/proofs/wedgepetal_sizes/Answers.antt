-- `theora_c::wedgepetal_sizes` meets its contract. Assumes nothing.
use borrow.Author.Rules.{rules}
use mathlib.Core.Path.{sym, ap, ◌∙◌}
use lib.ListN.{length}
use Rattle.answer_lists.specs.Lists.{sizes_returned}
use Rattle.session_list.proofs.Lists.{lengths, made, unmade}
use Rattle.theora_c.proofs.wedgepetal_sizes.Goals as goal

pub session_of-requires : goal.session_of-requires
session_of-requires c = (lengths 16 c.args.session.now (length c.args.sizes.now) (sym c.lists_refusal-k.ensures ∙ c.if-k-eq0.true)).0

pub return_sizes-requires : goal.return_sizes-requires
return_sizes-requires c = (lengths 16 c.args.session.now (length c.args.sizes.now) (sym c.lists_refusal-k.ensures ∙ c.if-k-eq0.true)).1

pub returns-then-k-eq0 : goal.returns-then-k-eq0
returns-then-k-eq0 c = made 16 c.args.session.now c.args.sizes.now c.lists_refusal-k.ensures _ c.if-k-eq0.true c.session_of.ensures
    (c.return_sizes.ensures ∙ ap (sizes_returned c.args.sizes.now) c.sizes.ensures)

pub returns : goal.returns
returns c = unmade 16 c.args.session.now c.args.sizes.now c.lists_refusal-k.ensures _ c.if-k-eq0.false
