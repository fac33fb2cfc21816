-- `theora_c::wedgepetal_macro_block_of` meets its contract. Assumes nothing.
use borrow.Author.Rules.{rules}
use mathlib.Core.Path.{sym, ap, ◌∙◌}
use lib.ListN.{length}
use Rattle.answer_lists.specs.Lists.{place_returned}
use Rattle.session_list.proofs.Lists.{lengths, made, unmade}
use Rattle.theora_c.proofs.wedgepetal_macro_block_of.Goals as goal

pub session_of-requires : goal.session_of-requires
session_of-requires c = (lengths 2 c.args.session.now (length c.args.place.now) (sym c.lists_refusal-k.ensures ∙ c.if-k-eq0.true)).0

pub return_place-requires : goal.return_place-requires
return_place-requires c = (lengths 2 c.args.session.now (length c.args.place.now) (sym c.lists_refusal-k.ensures ∙ c.if-k-eq0.true)).1

pub returns-then-k-eq0 : goal.returns-then-k-eq0
returns-then-k-eq0 c = made 2 c.args.session.now c.args.place.now c.lists_refusal-k.ensures _ c.if-k-eq0.true c.session_of.ensures
    (c.return_place.ensures ∙ ap (place_returned c.args.place.now) c.macro_block_of.ensures)

pub returns : goal.returns
returns c = unmade 2 c.args.session.now c.args.place.now c.lists_refusal-k.ensures _ c.if-k-eq0.false
