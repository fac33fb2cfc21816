-- `census_c::wedgepetal_census` meets its contract. Assumes nothing.
use borrow.Author.Rules.{rules}
use Rattle.work_memory.specs.Memory.{memory}
use Rattle.census_packets.specs.Recording.{lent}
use Rattle.census.specs.Call.{census_call}
use Rattle.census_c.proofs.Said.{said}
use Rattle.census_c.proofs.wedgepetal_census.Goals as goal

pub returns : goal.returns
returns c = said (census_call c.args.lengths.now c.args.packets.now c.args.report.now (lent c.args.table.now (memory c.args.records.now c.args.coded.now c.args.coefs.now c.args.dc.now c.args.lasts.now c.args.flags.now c.args.bits.now c.args.supers.now c.args.modes.now c.args.active.now) c.args.golden.now c.args.previous.now c.args.new.now)) _ c.census-done.ensures _ c.number_of.ensures
