-- `quantization::read_fields` meets its contract. The invariant: the fields so far stand at the front of `out`. Assumes nothing.
use Prim.Native.Nat.{◌-◌, ◌≤◌}
use mathlib.Core.Path.{◌≡◌}
use lib.ListN.{length, take}
use Rattle.bitstream.specs.Reading.{field, many, times}
use Rattle.quantization.proofs.read_fields.Given as goal

abbrev pub invariant-loop-k : goal.invariant-loop-k
invariant-loop-k l = (l.k ≤ length l.initial.out) × (length l.out ≡ length l.initial.out) × (many (length l.initial.out) (field l.width) l.packet l.at ≡ times (length l.initial.out - l.k) (field l.width) (take l.k l.out) l.packet l.place)

abbrev pub decreases-loop-k : goal.decreases-loop-k
decreases-loop-k l = length l.initial.out - l.k
