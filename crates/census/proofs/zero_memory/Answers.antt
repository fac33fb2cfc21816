-- `census::zero_memory` meets its contract. Assumes nothing.
use borrow.Author.Rules.{rules}
use Rattle.work_memory.specs.Memory.{memory}
use lib.IntN.{pos}
use Rattle.census.proofs.Scratch.{all_clear, zeroed_is}
use Rattle.census.proofs.zero_memory.Goals as goal

pub returns : goal.returns
returns c = zeroed_is (memory c.args.records.now c.args.coded.now c.args.coefs.now c.args.dc.now c.args.lasts.now c.args.flags.now c.args.bits.now c.args.supers.now c.args.modes.now c.args.active.now) _ _ _ _ _ _ _ _ _ _ c.clear_read.ensures.0 c.clear_read.ensures.1 c.clear_read.ensures.2 (all_clear (pos 0) c.args.dc.now _ c.clear_shorts.ensures) c.clear_read.ensures.3 (all_clear 0 c.args.flags.now _ c.clear_bytes.ensures) (all_clear 0 c.args.bits.now _ c.clear_bytes-2.ensures) (all_clear 0 c.args.supers.now _ c.clear_bytes-3.ensures) (all_clear 0 c.args.modes.now _ c.clear_bytes-4.ensures) (all_clear 0 c.args.active.now _ c.clear_longs.ensures)
