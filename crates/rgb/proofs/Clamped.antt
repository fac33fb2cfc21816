-- Clamping brings a result no further from the clamped fraction: `clamped-closer`. So the bytes too lie within 6/10: `red-clamped` ..
-- Assumes nothing.
use Prim.Native.Nat.{ℕ, zero, suc, ◌+◌, ◌*◌, ◌≤◌, min}
use native.Mathlib.Nat.{zero-mul, zero-min, mul-le-mul_left, mul-le-mul_right, le_trans, le_of_eq, min-eq_left, min-eq_right}
use native.Mathlib.Omega.{arith}
use mathlib.Core.Path.{◌≡◌, refl, sym, ap, ◌∙◌}
use mathlib.Core.Bool.{Bool, true, false}
use lib.Dec.{leb}
use borrow.Author.Tests.{leb-true, leb-false}
use lib.IntN.{ℤ, pos, negsuc, neg_ℤ, ◌-ℤ◌, ◌*ℤ◌, nat_abs}
use Rattle.numeric.specs.Clamp.{clamp255}
use Rattle.numeric.proofs.Linear.{up, dn, parts_add, up_neg, dn_neg}
use Rattle.rgb.specs.Pixel.{red_steps, green_steps, blue_steps}
use Rattle.rgb.specs.Exact.{red_over, red_exact, green_over, green_exact, blue_over, blue_exact, WithinSixTenths, between, clamped}
use Rattle.colour_tables.specs.Near.{apart}
use Rattle.rgb.proofs.Tenths.{red_tenths, green_tenths, blue_tenths}

-- the distance of two numbers, on their parts
difference : (x y : ℤ) → up (x -ℤ y) + (up y + dn x) ≡ up x + dn y + dn (x -ℤ y)
difference x y = omega (arith, parts_add x (neg_ℤ y), up_neg y, dn_neg y)

least : (z : ℤ) (p q b : ℕ) → up z + q ≡ p + dn z → p ≤ q + b → q ≤ p + b → nat_abs z ≤ b
least (pos n) p q b e u l = omega arith
least (negsuc n) p q b e u l = omega arith

reached : (z : ℤ) (p q : ℕ) → up z + q ≡ p + dn z → (p ≤ q + nat_abs z) × (q ≤ p + nat_abs z)
reached (pos n) p q e = (omega arith, omega arith)
reached (negsuc n) p q e = (omega arith, omega arith)

-- both brought between 0 and m
closer : (m : ℕ) (x y : ℤ) → nat_abs (between m x -ℤ between m y) ≤ nat_abs (x -ℤ y)
closer m x y = let r = reached (x -ℤ y) (up x + dn y) (up y + dn x) (difference x y) in least (between m x -ℤ between m y) _ _ (nat_abs (x -ℤ y)) (difference (between m x) (between m y)) (one m x y _ r.0) (one m y x _ r.1)
  where
    one : (m : ℕ) (x y : ℤ) (b : ℕ) → up x + dn y ≤ up y + dn x + b → up (between m x) + dn (between m y) ≤ up (between m y) + dn (between m x) + b
    one m (pos i) (pos j) b h = omega arith
    one m (pos i) (negsuc j) b h = omega arith
    one m (negsuc i) (pos j) b h = omega arith
    one m (negsuc i) (negsuc j) b h = omega arith

-- a clamped result, times d
min_times : (n m d : ℕ) → min n m * d ≡ min (n * d) (m * d)
min_times n m d = by (leb n m) refl
  where
    by : (t : Bool) → leb n m ≡ t → min n m * d ≡ min (n * d) (m * d)
    by true e = let h = leb-true n m e in ap (λ (k : ℕ). k * d) (min-eq_left h) ∙ sym (min-eq_left (mul-le-mul_right d h))
    by false e = let h : m ≤ n = omega (arith, leb-false n m e) in ap (λ (k : ℕ). k * d) (min-eq_right h) ∙ sym (min-eq_right (mul-le-mul_right d h))

none : (m k : ℕ) → between m (neg_ℤ (pos k)) ≡ pos 0
none m zero = ap pos (zero-min m)
none m (suc k) = refl

times : (r : ℤ) (d : ℕ) → pos (clamp255 r) *ℤ pos d ≡ between (255 * d) (r *ℤ pos d)
unfolding clamp255
times (pos n) d = ap pos (min_times n 255 d)
times (negsuc n) d = ap pos (zero-mul d) ∙ sym (none (255 * d) (suc n * d))

pub clamped_closer : (r n : ℤ) (d : ℕ) → apart (pos (clamp255 r)) (clamped n d) d ≤ apart r n d
clamped_closer r n d = le_trans (le_of_eq (ap (λ (z : ℤ). nat_abs (z -ℤ clamped n d)) (times r d))) (closer (255 * d) (r *ℤ pos d) n)

clamped_tenths : (r n : ℤ) (d : ℕ) → WithinSixTenths r n d → WithinSixTenths (pos (clamp255 r)) (clamped n d) d
clamped_tenths r n d h = le_trans (mul-le-mul_left 10 (clamped_closer r n d)) h

pub red_clamped : (y cr : ℕ) → WithinSixTenths (pos (clamp255 (red_steps y cr))) (clamped (red_exact y cr) red_over) red_over
red_clamped y cr = clamped_tenths (red_steps y cr) (red_exact y cr) red_over (red_tenths y cr)

pub green_clamped : (y cb cr : ℕ) → WithinSixTenths (pos (clamp255 (green_steps y cb cr))) (clamped (green_exact y cb cr) green_over) green_over
green_clamped y cb cr = clamped_tenths (green_steps y cb cr) (green_exact y cb cr) green_over (green_tenths y cb cr)

pub blue_clamped : (y cb : ℕ) → WithinSixTenths (pos (clamp255 (blue_steps y cb))) (clamped (blue_exact y cb) blue_over) blue_over
blue_clamped y cb = clamped_tenths (blue_steps y cb) (blue_exact y cb) blue_over (blue_tenths y cb)
