-- `block_qi::read_block_qi` meets its contract. The invariant: all steps are the steps that are left, with the records as they are. Assumes nothing.
use Prim.Native.Nat.{◌+◌, ◌-◌, ◌≤◌}
use mathlib.Core.Path.{◌≡◌}
use lib.ListN.{length}
use Rattle.block_record.specs.Memory.{AllPacked, records_of}
use Rattle.block_qi.specs.BlockQi.{qi_steps, block_qi}
use Rattle.block_qi.proofs.read_block_qi.Given as goal

abbrev pub invariant-loop-q : goal.invariant-loop-q
invariant-loop-q l = (length l.bits ≡ length l.initial.bits) × (length l.records ≡ length l.initial.records) × (l.q ≤ 2) × AllPacked l.records × (block_qi l.qis l.coded (records_of l.initial.records) l.packet l.at ≡ qi_steps (l.qis - (l.q + 1)) l.q l.coded (records_of l.records) l.packet l.place)

abbrev pub decreases-loop-q : goal.decreases-loop-q
decreases-loop-q l = l.qis - l.q
