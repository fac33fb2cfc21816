-- `theora_c::wedgepetal_identification` meets its contract. Assumes nothing.
use borrow.Author.Rules.{rules}
use mathlib.Core.Path.{ap, ◌∙◌}
use borrow.Author.Tests.{eqb-true}
use Rattle.bitstream.proofs.ListLaws.{and_both}
use Rattle.theora_c.specs.Face.{identification_call}
use Rattle.answer_lists.specs.Lists.{session_returned}
use Rattle.theora_c.proofs.wedgepetal_identification.Goals as goal

pub returns-then-session-place : goal.returns-then-session-place
unfolding identification_call
returns-then-session-place c = rw c.if-session-place.true (c.return_session.ensures ∙ ap (session_returned c.args.session.now) c.identification.ensures)

pub returns : goal.returns
unfolding identification_call
returns c = rw c.if-session-place.false
