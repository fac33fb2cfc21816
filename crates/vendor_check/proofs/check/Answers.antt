-- `vendor_check::check` meets its contract. Assumes nothing.
use Rattle.work_memory.specs.Memory.{memory}
use Rattle.vendor_check.specs.Check.{lent}
use Rattle.vendor_check.proofs.Calls.{header_refused, setup_refused, both_accepted}
use borrow.Author.Rules.{rules}
use Rattle.vendor_check.proofs.check.Goals as goal

pub returns-in-Refused : goal.returns-in-Refused
returns-in-Refused c = header_refused c.args.identification.now c.args.setup.now c.args.file.now (lent c.args.lengths.now c.args.packets.now c.args.table.now (memory c.args.records.now c.args.coded.now c.args.coefs.now c.args.dc.now c.args.lasts.now c.args.flags.now c.args.bits.now c.args.supers.now c.args.modes.now c.args.active.now) c.args.first.now c.args.second.now c.args.third.now c.args.answers.now) c.identification.ensures c.in-Refused.is

pub returns-in-Refused-setup : goal.returns-in-Refused-setup
returns-in-Refused-setup c = setup_refused c.args.identification.now c.args.setup.now c.args.file.now (lent c.args.lengths.now c.args.packets.now c.args.table.now (memory c.args.records.now c.args.coded.now c.args.coefs.now c.args.dc.now c.args.lasts.now c.args.flags.now c.args.bits.now c.args.supers.now c.args.modes.now c.args.active.now) c.args.first.now c.args.second.now c.args.third.now c.args.answers.now) c.identification.ensures c.in-Accepted.is c.setup.ensures.value c.setup.ensures.table_after c.in-Refused-setup.is

pub returns-in-Accepted-setup : goal.returns-in-Accepted-setup
returns-in-Accepted-setup c = both_accepted c.args.identification.now c.args.setup.now c.args.file.now (lent c.args.lengths.now c.args.packets.now c.args.table.now (memory c.args.records.now c.args.coded.now c.args.coefs.now c.args.dc.now c.args.lasts.now c.args.flags.now c.args.bits.now c.args.supers.now c.args.modes.now c.args.active.now) c.args.first.now c.args.second.now c.args.third.now c.args.answers.now) c.identification.ensures c.in-Accepted.is c.setup.ensures.value c.setup.ensures.table_after c.in-Accepted-setup.is _ c.check_shot.ensures
