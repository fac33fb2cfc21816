-- `census::census` meets its contract. Assumes nothing.
use borrow.Author.Rules.{rules}
use mathlib.Core.Path.{sym, ◌∙◌}
use borrow.Author.Tests.{leb-true, not-true, not-false}
use Rattle.work_memory.specs.Memory.{memory}
use Rattle.census_packets.specs.Recording.{lent}
use Rattle.census.specs.Call.{census_call}
use Rattle.census.proofs.Scratch.{past, within, zeroed_same, replicated}
use Rattle.census.proofs.census.Goals as goal

pub returns-then-not-reach : goal.returns-then-not-reach
returns-then-not-reach c = past (census_call c.args.lengths.now c.args.packets.now c.args.report.now (lent c.args.table.now (memory c.args.records.now c.args.coded.now c.args.coefs.now c.args.dc.now c.args.lasts.now c.args.flags.now c.args.bits.now c.args.supers.now c.args.modes.now c.args.active.now) c.args.golden.now c.args.previous.now c.args.new.now)) (sym c.lengths_reach-reach.ensures ∙ c.if-not-reach.true)

pub returns : goal.returns
returns c = within (census_call c.args.lengths.now c.args.packets.now c.args.report.now (lent c.args.table.now (memory c.args.records.now c.args.coded.now c.args.coefs.now c.args.dc.now c.args.lasts.now c.args.flags.now c.args.bits.now c.args.supers.now c.args.modes.now c.args.active.now) c.args.golden.now c.args.previous.now c.args.new.now)) (sym c.lengths_reach-reach.ensures ∙ c.if-not-reach.false) _ _ (c.count-k.ensures.value, c.count-k.ensures.report_after) _ c.answer.ensures _ (c.zero_memory.ensures ∙ zeroed_same _ _ c.records-1.given c.coded-1.given c.coefs-1.given c.dc-1.given c.lasts-1.given c.flags-1.given c.bits-1.given c.supers-1.given c.modes-1.given c.active-1.given) _ _ _ _ (replicated c.table-1.given c.zero_buffers.ensures.0) c.zero_buffers.ensures.1 c.zero_buffers.ensures.2 c.zero_buffers.ensures.3
