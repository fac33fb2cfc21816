-- `player::hash` meets its contract. The invariant: the hash so far, continued over the rest, is the hash of all. Assumes nothing.
use Rattle.std.proofs.Common.{◌≡◌, ℕ, ◌+◌, ◌-◌, ◌<◌, ◌≤◌, List, [], length, get_or, drop, refl, add-one, arith, drop-cons, rules}
use lib.Seq.{drop-length}
use Rattle.player.specs.Hash.{hash_byte, hash_from, hash_of}
use Rattle.player.proofs.hash.Given as goal

abbrev pub invariant-loop-i : goal.invariant-loop-i
invariant-loop-i l = (l.i ≤ length l.bytes) × (hash_from l.hash (drop l.i l.bytes) ≡ hash_of l.bytes)

abbrev pub decreases-loop-i : goal.decreases-loop-i
decreases-loop-i l = length l.bytes - l.i
