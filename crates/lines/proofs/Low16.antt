-- Arithmetic in 16 bits: a sum or a difference that is cut may be made of numbers that were cut before, and the upper half of a product with a factor from 32768 on comes from a product with a factor that 16 bits hold.
-- Assumes nothing.
use mathlib.Core.Path.{◌≡◌, refl, sym, ap, ap₂, ◌∙◌}
use Prim.Native.Nat.{ℕ, zero, suc, ◌+◌, ◌-◌, ◌*◌, ◌%◌, ◌≤◌, ◌<◌}
use native.Mathlib.Nat.{mul-add}
use native.Mathlib.Omega.{arith}
use lib.IntN.{ℤ, pos, negsuc, neg_ℤ, nat_abs, ◌+ℤ◌, ◌-ℤ◌, ◌*ℤ◌, *ℤ-negsuc}
use lib.Signed.{shr_z}
use mir.Syntax.{w16}
use lib.Dec.{ltb}
use mir.Val.{SFits, sel}
use Rattle.std.specs.Int.{int_wrap, int_wrapping_add, int_wrapping_sub}
use Rattle.std.proofs.lemmas.Int.{wrapping_add_is, wrapping_sub_is}
use Rattle.numeric.specs.Cut.{mod16, read16, cut}
use Rattle.numeric.specs.Divide.{floor_shift}
use Rattle.numeric.proofs.CutLaws.{mod_add, mod_cut}
use Rattle.numeric.proofs.Linear.{up, dn, parts_add, up_neg, dn_neg, up_mul, dn_mul, ext}

-- ---- what is cut depends on the low 16 bits

mod_neg : (z : ℤ) → mod16 (neg_ℤ z) ≡ (65536 - mod16 z) % 65536
unfolding mod16
mod_neg (pos zero) = refl
mod_neg (pos (suc n)) = omega arith
mod_neg (negsuc n) = omega arith

pub add_same : (a b c d : ℤ) → mod16 a ≡ mod16 c → mod16 b ≡ mod16 d → cut (a +ℤ b) ≡ cut (c +ℤ d)
unfolding cut
add_same a b c d e h = ap read16 (mod_add a b ∙ ap₂ (λ (m n : ℕ). (m + n) % 65536) e h ∙ sym (mod_add c d))

pub sub_same : (a b c d : ℤ) → mod16 a ≡ mod16 c → mod16 b ≡ mod16 d → cut (a -ℤ b) ≡ cut (c -ℤ d)
sub_same a b c d e h = add_same a (neg_ℤ b) c (neg_ℤ d) e (mod_neg b ∙ ap (λ (m : ℕ). (65536 - m) % 65536) h ∙ sym (mod_neg d))

-- the low 16 bits of a number that was cut
pub low : (v z : ℤ) → v ≡ cut z → mod16 v ≡ mod16 z
low v z e = ap mod16 e ∙ mod_cut z

-- ---- a wrapping sum or difference of 16 bits is cut

wrap_cut : (z : ℤ) → int_wrap w16 z ≡ cut z
unfolding int_wrap cut read16 mod16
wrap_cut (pos n) = let e : 65536 - suc (n % 65536) ≡ 65535 - n % 65536 = omega arith in ap (λ (k : ℕ). sel (ltb (n % 65536) 32768) (pos (n % 65536)) (negsuc k)) e
wrap_cut (negsuc n) =
    let m = 65535 - n % 65536 in
    let e : 65536 - suc m ≡ 65535 - m = omega arith in
    ap (λ (k : ℕ). sel (ltb m 32768) (pos m) (negsuc k)) e

pub add_cut : (a b : ℤ) → SFits w16 a → SFits w16 b → int_wrapping_add w16 a b ≡ cut (a +ℤ b)
add_cut a b f g = wrapping_add_is w16 a b f g ∙ wrap_cut (a +ℤ b)

pub sub_cut : (a b : ℤ) → SFits w16 a → SFits w16 b → int_wrapping_sub w16 a b ≡ cut (a -ℤ b)
sub_cut a b f g = wrapping_sub_is w16 a b f g ∙ wrap_cut (a -ℤ b)

-- of numbers whose low 16 bits are those of x and y
pub sum_cut : (a b x y : ℤ) → SFits w16 a → SFits w16 b → mod16 a ≡ mod16 x → mod16 b ≡ mod16 y → int_wrapping_add w16 a b ≡ cut (x +ℤ y)
sum_cut a b x y f g e h = add_cut a b f g ∙ add_same a b x y e h

pub difference_cut : (a b x y : ℤ) → SFits w16 a → SFits w16 b → mod16 a ≡ mod16 x → mod16 b ≡ mod16 y → int_wrapping_sub w16 a b ≡ cut (x -ℤ y)
difference_cut a b x y f g e h = sub_cut a b f g ∙ sub_same a b x y e h

-- ---- the upper half of a product

floor_low : (z : ℤ) → up (shr_z z 65536) * 65536 + dn z ≤ up z + dn (shr_z z 65536) * 65536
floor_low (pos a) = omega arith
floor_low (negsuc a) = omega arith

floor_high : (z : ℤ) → up z + dn (shr_z z 65536) * 65536 < up (shr_z z 65536) * 65536 + dn z + 65536
floor_high (pos a) = omega arith
floor_high (negsuc a) = omega arith

one_floor : (uq dq ur dr us ds ux dx a b c d : ℕ) → a + b ≡ ux * 65536 → c + d ≡ dx * 65536 → uq * 65536 + b ≤ d + dq * 65536 → d + dq * 65536 < uq * 65536 + b + 65536 → ur * 65536 + c ≤ a + dr * 65536 → a + dr * 65536 < ur * 65536 + c + 65536 → us + (dq + dx) ≡ (uq + ux) + ds → us + dr ≡ ur + ds
one_floor uq dq ur dr us ds ux dx a b c d h1 h2 h3 h4 h5 h6 h7 = omega arith

split : (u c k : ℕ) → c + suc k ≡ 65536 → u * c + u * suc k ≡ u * 65536
split u c k e = sym (mul-add u c (suc k)) ∙ ap (λ (m : ℕ). u * m) e

-- the factor c is 65536 less k + 1
pub less_65536 : (x : ℤ) (c k : ℕ) → c + suc k ≡ 65536 → floor_shift (x *ℤ negsuc k) 16 +ℤ x ≡ floor_shift (x *ℤ pos c) 16
less_65536 x c k e =
    let y = x *ℤ negsuc k in
    let z = x *ℤ pos c in
    let uy = ap up (*ℤ-negsuc x k) ∙ up_neg (x *ℤ pos (suc k)) ∙ dn_mul x (suc k) in
    let dy = ap dn (*ℤ-negsuc x k) ∙ dn_neg (x *ℤ pos (suc k)) ∙ up_mul x (suc k) in
    ext (shr_z y 65536 +ℤ x) (shr_z z 65536)
    (one_floor (up (shr_z y 65536)) (dn (shr_z y 65536)) (up (shr_z z 65536)) (dn (shr_z z 65536)) (up (shr_z y 65536 +ℤ x)) (dn (shr_z y 65536 +ℤ x)) (up x) (dn x) (up z) (dn y) (dn z) (up y)
    (ap₂ ◌+◌ (up_mul x c) dy ∙ split (up x) c k e)
    (ap₂ ◌+◌ (dn_mul x c) uy ∙ split (dn x) c k e)
    (floor_low y)
    (floor_high y)
    (floor_low z)
    (floor_high z)
    (parts_add (shr_z y 65536) x))

-- a product's upper half fits 16 bits
pub half_fits : (z : ℤ) → nat_abs z ≤ 2147450880 → SFits w16 (floor_shift z 16)
half_fits (pos a) h = record { sfits = omega arith }
half_fits (negsuc a) h = record { sfits = omega arith }
