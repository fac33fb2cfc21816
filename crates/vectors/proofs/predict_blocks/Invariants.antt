-- `vectors::predict_blocks` meets its contract. The invariant: the predictions from the start are those made and those of what is left. Assumes nothing.
use Prim.Native.Nat.{◌-◌, ◌≤◌}
use mathlib.Core.Path.{◌≡◌}
use lib.ListN.{length}
use Rattle.block_record.specs.Memory.{AllPacked, records_of}
use Rattle.vectors.specs.Vectors.{predicted_from}
use Rattle.vectors.proofs.predict_blocks.Given as goal

abbrev pub invariant-loop-k : goal.invariant-loop-k
invariant-loop-k l = (length l.records ≡ length l.initial.records) × (l.k ≤ l.n) × AllPacked l.records × (predicted_from l.format l.w l.h l.q l.m l.n 0 (records_of l.initial.records) ≡ predicted_from l.format l.w l.h l.q l.m (l.n - l.k) l.k (records_of l.records))

abbrev pub decreases-loop-k : goal.decreases-loop-k
decreases-loop-k l = l.n - l.k
