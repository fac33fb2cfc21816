-- `session_list::lists_refusal` meets its contract. Assumes nothing.
use mathlib.Core.Path.{sym, ◌∙◌}
use Rattle.session_list.proofs.Lists.{lists_length, lists_none, lists_room, lists_fields}
use Rattle.session_list.proofs.lists_refusal.Goals as goal

pub returns-then-session-ne19 : goal.returns-then-session-ne19
returns-then-session-ne19 c = lists_length c.args.wanted c.args.session.now c.args.room c.if-session-ne19.true

pub returns-then-room-wanted : goal.returns-then-room-wanted
returns-then-room-wanted c = lists_none c.args.wanted c.args.session.now c.args.room c.if-session-ne19.false c.if-room-wanted.true

pub returns-then-session_fits : goal.returns-then-session_fits
returns-then-session_fits c = lists_room c.args.wanted c.args.session.now c.args.room c.if-session-ne19.false c.session_of-s.ensures
    (sym c.session_fits.ensures ∙ c.if-session_fits.true) c.if-room-wanted.false

pub returns : goal.returns
returns c = lists_fields c.args.wanted c.args.session.now c.args.room c.if-session-ne19.false c.session_of-s.ensures
    (sym c.session_fits.ensures ∙ c.if-session_fits.false) c.if-room-wanted.false
