-- `player::hash_byte` meets its contract: the product with 2^40 + 435 is made of three parts, each cut to 64 bits. Assumes nothing.
use Rattle.std.proofs.Common.{◌≡◌, ℕ, ◌+◌, ◌*◌, ◌/◌, ◌%◌, ◌^◌, ◌<◌, sym, ap, ◌∙◌, mod-eq_of_lt, arith, rules}
use native.Mathlib.Nat.{add-mul-mod_self_right}
use lib.Bits.{bit_xor, xor_lt}
use Rattle.player.specs.Hash.{hash_byte}
use Rattle.player.proofs.hash_byte.Goals as goal

-- y is r and a multiple of 2^64
remainder : (y r m : ℕ) → r < 2 ^ 64 → y ≡ r + m * 2 ^ 64 → r ≡ y % 2 ^ 64
remainder y r m h e = sym (ap (λ (n : ℕ). n % 2 ^ 64) e ∙ (add-mul-mod_self_right r m (2 ^ 64) ∙ mod-eq_of_lt h))

in_parts : (x sum r : ℕ) → sum ≡ (x / 4294967296 * 435 % 4294967296 * 4294967296 + x % 4294967296 * 435) % 2 ^ 64 → r ≡ (sum + x % 16777216 * 1099511627776) % 2 ^ 64
    → r ≡ (x * 1099511628211) % 2 ^ 64
in_parts x sum r a b =
    remainder (x * 1099511628211) r
    ((sum + x % 16777216 * 1099511627776) / 2 ^ 64 + ((x / 4294967296 * 435 % 4294967296 * 4294967296 + x % 4294967296 * 435) / 2 ^ 64 + (x / 4294967296 * 435 / 4294967296 + x / 16777216)))
    (omega arith) (omega arith)

pub returns : goal.returns
unfolding hash_byte
returns c = in_parts _ _ _ c.wrapping_add_u64-sum.ensures.value c.wrapping_add_u64.ensures.value
