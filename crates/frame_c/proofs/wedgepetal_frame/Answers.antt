-- `frame_c::wedgepetal_frame` meets its contract. Assumes nothing.
use borrow.Author.Rules.{rules}
use mathlib.Core.Path.{sym, ◌∙◌}
use lib.ListN.{length}
use Rattle.session_list.proofs.Lists.{lengths}
use Rattle.frame_c.proofs.Calls.{frame_made, frame_unmade}
use Rattle.frame_c.proofs.wedgepetal_frame.Goals as goal

pub session_of-s-requires : goal.session_of-s-requires
session_of-s-requires c = (lengths 8 c.args.session.now (length c.args.answer.now) (sym c.lists_refusal-k.ensures ∙ c.if-k-eq0.true)).0

pub return_frame-requires : goal.return_frame-requires
return_frame-requires c = lengths 8 c.args.session.now (length c.args.answer.now) (sym c.lists_refusal-k.ensures ∙ c.if-k-eq0.true)

pub returns-then-k-eq0 : goal.returns-then-k-eq0
returns-then-k-eq0 c = frame_made c.args.session.now c.args.answer.now c.args.golden.now c.args.previous.now _ c.lists_refusal-k.ensures c.if-k-eq0.true c.session_of-s.ensures c.frame-done.ensures c.return_frame.ensures

pub returns : goal.returns
returns c = frame_unmade c.args.session.now c.args.answer.now c.args.golden.now c.args.previous.now _ c.lists_refusal-k.ensures c.if-k-eq0.false
