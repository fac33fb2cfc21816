-- `coded_flags::partly_blocks` meets its contract. The invariant: the blocks so far, and those of the rest, are all. Assumes nothing.
use Prim.Native.Nat.{◌+◌, ◌-◌, ◌*◌, ◌≤◌}
use mathlib.Core.Path.{◌≡◌}
use lib.ListN.{length, drop}
use Rattle.geometry.specs.Sizes.{super_blocks_of}
use Rattle.coded_flags.specs.Flags.{sizes_from, super_sizes, partly_blocks}
use Rattle.coded_flags.proofs.partly_blocks.Given as goal

abbrev pub invariant-loop-k : goal.invariant-loop-k
invariant-loop-k l = (l.k ≤ length l.partly) × (l.n ≤ 16 * l.k) × (l.n + partly_blocks (sizes_from l.format l.w l.h l.k (super_blocks_of l.format l.w l.h - l.k)) (drop l.k l.partly) ≡ partly_blocks (super_sizes l.format l.w l.h) l.partly)

abbrev pub decreases-loop-k : goal.decreases-loop-k
decreases-loop-k l = length l.partly - l.k
