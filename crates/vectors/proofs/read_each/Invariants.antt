-- `vectors::read_each` meets its contract. The invariant: the macro blocks from the start are those done and those that are left. Assumes nothing.
use Prim.Native.Nat.{◌-◌, ◌≤◌}
use mathlib.Core.Path.{◌≡◌}
use lib.ListN.{length}
use Rattle.block_record.specs.Record.{VectorInRange}
use Rattle.block_record.specs.Memory.{AllPacked, records_of}
use Rattle.motion.specs.Kept.{zero_vector}
use Rattle.vectors.specs.Vectors.{macro_blocks}
use Rattle.vectors.specs.Memory.{state_of}
use Rattle.vectors.specs.Start.{Waiting}
use Rattle.vectors.proofs.read_each.Given as goal

abbrev pub invariant-loop-m : goal.invariant-loop-m
invariant-loop-m l = (length l.records ≡ length l.initial.records) × (l.m ≤ l.n) × VectorInRange l.last × VectorInRange l.last2 × AllPacked l.records × (macro_blocks l.format l.w l.h l.code l.modes l.n 0 (state_of l.initial.records zero_vector zero_vector) l.packet l.at ≡ macro_blocks l.format l.w l.h l.code l.modes (l.n - l.m) l.m (state_of l.records l.last l.last2) l.packet l.place) × Waiting l.format l.w l.h l.m (records_of l.records)

abbrev pub decreases-loop-m : goal.decreases-loop-m
decreases-loop-m l = l.n - l.m
