-- `tiles_shot_c::wedgepetal_tiles_shot` meets its contract. Assumes nothing.
use borrow.Author.Rules.{rules}
use mathlib.Core.Path.{sym, ◌∙◌}
use lib.ListN.{length}
use Rattle.work_memory.specs.Memory.{memory}
use Rattle.tiles_shot_c.proofs.Calls.{face_made, face_unmade}
use Rattle.settings_list.proofs.ShotLists.{lists_long}
use Rattle.tiles_shot_c.proofs.wedgepetal_tiles_shot.Goals as goal

pub settings_of-set-requires : goal.settings_of-set-requires
settings_of-set-requires c = (lists_long c.args.settings.now (length c.args.session.now) (length c.args.names.now) (sym c.lists_refusal-k.ensures ∙ c.if-k-eq0.true)).0

pub session_of-s-requires : goal.session_of-s-requires
session_of-s-requires c = (lists_long c.args.settings.now (length c.args.session.now) (length c.args.names.now) (sym c.lists_refusal-k.ensures ∙ c.if-k-eq0.true)).1

pub names_in-both-requires : goal.names_in-both-requires
names_in-both-requires c = (lists_long c.args.settings.now (length c.args.session.now) (length c.args.names.now) (sym c.lists_refusal-k.ensures ∙ c.if-k-eq0.true)).2

pub return_shot-requires : goal.return_shot-requires
return_shot-requires c = let l = lists_long c.args.settings.now (length c.args.session.now) (length c.args.names.now) (sym c.lists_refusal-k.ensures ∙ c.if-k-eq0.true) in (l.1, l.2)

pub returns-then-k-eq0 : goal.returns-then-k-eq0
returns-then-k-eq0 c = face_made c.args.settings.now c.args.session.now c.args.names.now c.args.lengths.now c.args.packets.now c.args.table.now (memory c.args.records.now c.args.coded.now c.args.coefs.now c.args.dc.now c.args.lasts.now c.args.flags.now c.args.bits.now c.args.supers.now c.args.modes.now c.args.active.now) c.args.first.now c.args.second.now c.args.third.now c.args.answers.now c.args.maps.now c.lists_refusal-k.ensures c.if-k-eq0.true c.settings_of-set.ensures c.session_of-s.ensures c.names_in-both.ensures _ c.shot-done.ensures c.return_shot.ensures

pub returns : goal.returns
returns c = face_unmade c.args.settings.now c.args.session.now c.args.names.now c.args.lengths.now c.args.packets.now c.args.table.now (memory c.args.records.now c.args.coded.now c.args.coefs.now c.args.dc.now c.args.lasts.now c.args.flags.now c.args.bits.now c.args.supers.now c.args.modes.now c.args.active.now) c.args.first.now c.args.second.now c.args.third.now c.args.answers.now c.args.maps.now c.lists_refusal-k.ensures c.if-k-eq0.false
