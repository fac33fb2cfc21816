-- Rounding to the nearest, over any divisor: `round-nearest`. Each entry of a table is a nearest integer to its rule: `entry-nearest`.
-- A signed number z stands as `up z` less `dn z` (`numeric`, Linear). Assumes nothing.
use Prim.Native.Nat.{ℕ, suc, ◌+◌, ◌*◌, ◌≤◌, ◌<◌}
use native.Mathlib.Nat.{div-mul-le_self, div-add-mod', mod-lt, zero-mul, mul-add}
use native.Mathlib.Omega.{arith}
use mathlib.Core.Path.{◌≡◌, ap}
use lib.IntN.{ℤ, pos, negsuc, neg_ℤ, ◌-ℤ◌, ◌*ℤ◌, nat_abs}
use Rattle.numeric.specs.Divide.{nearest, round_over}
use Rattle.numeric.proofs.Linear.{up, dn, parts_add, up_neg, dn_neg, up_mul, dn_mul}
use Rattle.colour_tables.specs.Rule.{Rule, ruled, entry}
use Rattle.colour_tables.specs.Near.{Nearest}

near_upper : (d n : ℕ) → 2 * (nearest d n * d) ≤ 2 * n + d
near_upper d n = omega (arith, div-mul-le_self (n * 2 + d) (d * 2))

near_lower : (d n : ℕ) → 0 < d → 2 * n ≤ 2 * (nearest d n * d) + d
near_lower d n h = omega (arith, div-add-mod' (n * 2 + d) (d * 2), mod-lt (n * 2 + d) {m = d * 2} (omega arith))

-- the same of a signed number, on its parts
pub round_upper : (d : ℕ) (z : ℤ) → 0 < d → 2 * (up (round_over d z) * d + dn z) ≤ 2 * (up z + dn (round_over d z) * d) + d
unfolding round_over
round_upper d (pos n) h = omega (arith, near_upper d n, zero-mul d)
round_upper d (negsuc n) h = rw (up_neg (pos (nearest d (suc n)))) (rw (dn_neg (pos (nearest d (suc n)))) (omega (arith, near_lower d (suc n) h, zero-mul d)))

pub round_lower : (d : ℕ) (z : ℤ) → 0 < d → 2 * (up z + dn (round_over d z) * d) ≤ 2 * (up (round_over d z) * d + dn z) + d
unfolding round_over
round_lower d (pos n) h = omega (arith, near_lower d n h, zero-mul d)
round_lower d (negsuc n) h = rw (up_neg (pos (nearest d (suc n)))) (rw (dn_neg (pos (nearest d (suc n)))) (omega (arith, near_upper d (suc n), zero-mul d)))

-- a bound of k times the magnitude of z, which is p less q
pub apart_by : (k : ℕ) (z : ℤ) (p q b : ℕ) → up z + q ≡ p + dn z → k * p ≤ k * q + b → k * q ≤ k * p + b → k * nat_abs z ≤ b
apart_by k (pos n) p q b e u l = let m = ap (λ (x : ℕ). k * x) e in omega (arith, m, mul-add k n q, mul-add k p 0)
apart_by k (negsuc n) p q b e u l = let m = ap (λ (x : ℕ). k * x) e in omega (arith, m, mul-add k 0 q, mul-add k p (suc n))

pub round_nearest : (d : ℕ) (z : ℤ) → 0 < d → Nearest (round_over d z) z d
round_nearest d z h =
    let r = round_over d z in
    apart_by 2 (r *ℤ pos d -ℤ z) (up r * d + dn z) (up z + dn r * d) d
    (omega (arith, parts_add (r *ℤ pos d) (neg_ℤ z), up_mul r d, dn_mul r d, up_neg z, dn_neg z))
    (round_upper d z h)
    (round_lower d z h)

-- "rounded to nearest": each entry, for any rule and any value
pub entry_nearest : (r : Rule) (v : ℕ) → 0 < r.over → Nearest (entry r v) (ruled r v) r.over
unfolding entry
entry_nearest r v h = round_nearest r.over (ruled r v) h
