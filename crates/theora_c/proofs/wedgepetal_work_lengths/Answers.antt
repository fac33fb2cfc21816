-- `theora_c::wedgepetal_work_lengths` meets its contract. Assumes nothing.
use borrow.Author.Rules.{rules}
use mathlib.Core.Path.{sym, ap, ◌∙◌}
use lib.ListN.{length}
use Rattle.theora_c.specs.Face.{lengths_returned}
use Rattle.session_list.proofs.Lists.{lengths, made, unmade}
use Rattle.theora_c.proofs.wedgepetal_work_lengths.Goals as goal

pub session_of-requires : goal.session_of-requires
session_of-requires c = (lengths 11 c.args.session.now (length c.args.lengths.now) (sym c.lists_refusal-k.ensures ∙ c.if-k-eq0.true)).0

pub return_lengths-requires : goal.return_lengths-requires
return_lengths-requires c = (lengths 11 c.args.session.now (length c.args.lengths.now) (sym c.lists_refusal-k.ensures ∙ c.if-k-eq0.true)).1

pub returns-then-k-eq0 : goal.returns-then-k-eq0
returns-then-k-eq0 c = made 11 c.args.session.now c.args.lengths.now c.lists_refusal-k.ensures _ c.if-k-eq0.true c.session_of.ensures
    (c.return_lengths.ensures ∙ ap (lengths_returned c.args.lengths.now) c.work_lengths.ensures)

pub returns : goal.returns
returns c = unmade 11 c.args.session.now c.args.lengths.now c.lists_refusal-k.ensures _ c.if-k-eq0.false
