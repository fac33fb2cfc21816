-- `shot_c::wedgepetal_shot` meets its contract. Assumes nothing.
use borrow.Author.Rules.{rules}
use mathlib.Core.Path.{◌≡◌, refl, sym, ap, ◌∙◌}
use lib.Dec.{eqb}
use lib.ListN.{length}
use borrow.Author.Tests.{eqb-true}
use Rattle.bitstream.proofs.ListLaws.{and_both}
use Rattle.work_memory.specs.Memory.{memory}
use Rattle.shot_c.proofs.Calls.{shot_made, shot_unmade}
use Rattle.shot_c.proofs.wedgepetal_shot.Goals as goal

pub returns-then-session-names : goal.returns-then-session-names
returns-then-session-names c = shot_made c.args.session.now c.args.names.now c.args.lengths.now c.args.packets.now c.args.table.now (memory c.args.records.now c.args.coded.now c.args.coefs.now c.args.dc.now c.args.lasts.now c.args.flags.now c.args.bits.now c.args.supers.now c.args.modes.now c.args.active.now) c.args.first.now c.args.second.now c.args.third.now c.args.answers.now c.if-session-names.true c.session_of-s.ensures c.names_in-both.ensures _ c.shot-done.ensures c.return_shot.ensures

pub returns : goal.returns
returns c = shot_unmade c.args.session.now c.args.names.now c.args.lengths.now c.args.packets.now c.args.table.now (memory c.args.records.now c.args.coded.now c.args.coefs.now c.args.dc.now c.args.lasts.now c.args.flags.now c.args.bits.now c.args.supers.now c.args.modes.now c.args.active.now) c.args.first.now c.args.second.now c.args.third.now c.args.answers.now c.if-session-names.false
