-- `answer_lists::return_session` meets its contract. Assumes nothing.
use mathlib.Core.Path.{ap, ◌∙◌}
use Rattle.session_list.specs.List.{gives}
use Rattle.answer_lists.proofs.Lists.{with_flag, session_accepted, session_refused}
use Rattle.answer_lists.proofs.return_session.Goals as goal

pub returns-in-Accepted : goal.returns-in-Accepted
returns-in-Accepted c = session_accepted c.args.list.now c.args.place.now c.requires.1 c.in-Accepted.is (c.store.ensures ∙ ap (gives 0) (with_flag c.in-Accepted.s c.flag_number-references.result c.flag_number-references.ensures))

pub returns-in-Refused : goal.returns-in-Refused
returns-in-Refused c = session_refused c.args.list.now c.args.place.now c.requires.1 c.in-Refused.is
