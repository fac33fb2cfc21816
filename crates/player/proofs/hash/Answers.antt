use Rattle.std.proofs.Common.{◌≡◌, ℕ, ◌+◌, ◌-◌, ◌<◌, ◌≤◌, List, [], length, get_or, drop, refl, add-one, arith, drop-cons, rules}
use lib.Seq.{drop-length}
use Rattle.player.specs.Hash.{hash_byte, hash_from, hash_of}
use Rattle.player.proofs.hash.Goals as goal

turn : (bytes : List ℕ) (i hash next : ℕ) → i < length bytes → hash_from hash (drop i bytes) ≡ hash_of bytes → next ≡ hash_byte hash (get_or bytes i 0) → hash_from next (drop (i + 1) bytes) ≡ hash_of bytes
unfolding hash_from
turn bytes i hash next h e n = rw (n, add-one) (rw (drop-cons bytes i 0 h) at e)

last : (bytes : List ℕ) (i hash : ℕ) → i ≡ length bytes → hash_from hash (drop i bytes) ≡ hash_of bytes → hash ≡ hash_of bytes
unfolding hash_from
last bytes i hash h e = rw (h, drop-length) at e

pub loop-i-init : goal.loop-i-init
unfolding hash_of
loop-i-init c = (omega arith, refl)

pub loop-i-preserved : goal.loop-i-preserved
loop-i-preserved c = (omega arith, turn _ _ _ _ (omega arith) c.loop-i.invariant.1 c.hash_byte-hash.ensures)

pub returns : goal.returns
returns c = last c.args.bytes.now c.loop-i.i _ (omega arith) c.loop-i.invariant.1
