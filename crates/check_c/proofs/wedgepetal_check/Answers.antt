-- `check_c::wedgepetal_check` meets its contract. Assumes nothing.
use Rattle.work_memory.specs.Memory.{memory}
use Rattle.vendor_check.specs.Check.{lent}
use Rattle.check_c.proofs.Calls.{check_made, check_unmade}
use borrow.Author.Rules.{rules}
use Rattle.check_c.proofs.wedgepetal_check.Goals as goal

pub returns-then-found-eq2 : goal.returns-then-found-eq2
returns-then-found-eq2 c = check_made c.args.identification.now c.args.setup.now c.args.file.now (lent c.args.lengths.now c.args.packets.now c.args.table.now (memory c.args.records.now c.args.coded.now c.args.coefs.now c.args.dc.now c.args.lasts.now c.args.flags.now c.args.bits.now c.args.supers.now c.args.modes.now c.args.active.now) c.args.first.now c.args.second.now c.args.third.now c.args.answers.now) c.args.found.now c.if-found-eq2.true c.check-answer.ensures c.return_check.ensures

pub returns : goal.returns
returns c = check_unmade c.args.identification.now c.args.setup.now c.args.file.now (lent c.args.lengths.now c.args.packets.now c.args.table.now (memory c.args.records.now c.args.coded.now c.args.coefs.now c.args.dc.now c.args.lasts.now c.args.flags.now c.args.bits.now c.args.supers.now c.args.modes.now c.args.active.now) c.args.first.now c.args.second.now c.args.third.now c.args.answers.now) c.args.found.now c.if-found-eq2.false
