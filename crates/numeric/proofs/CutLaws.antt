-- Laws of `cut`, and of the mask that computes it.
-- Assumes nothing.
use mathlib.Core.Path.{◌≡◌, refl, sym, ap, ◌∙◌}
use mathlib.Core.Bool.{Bool, true, false}
use Prim.Native.Nat.{ℕ, suc, ◌+◌, ◌-◌, ◌*◌, ◌%◌, ◌^◌, ◌≤◌, ◌<◌}
use native.Mathlib.Omega.{arith}
use native.Mathlib.Nat.{lt_of_lt_of_le, le_of_eq}
use borrow.Author.Tests.{lt-ltb, le-ltb, ltb-true, ltb-false}
use lib.Bits.{bit_and, and_mask}
use lib.Dec.{T, ltb, leb, leb→le}
use lib.IntN.{ℤ, pos, negsuc, sub_ℕ, ◌+ℤ◌}
use lib.Pow.{pow-add}
use lib.Signed.{mag}
use mir.Syntax.{Width, w16}
use mir.Val.{bits, SFits, of_z, sel}
use mir.ValLaws.{half_full}
use Rattle.numeric.proofs.Magnitude.{sub_cases}
use Rattle.numeric.specs.Cut.{mod16, read16, cut}

-- ---- the low 16 bits are what a mask leaves, at any width that has them

split : (b : ℕ) → 16 ≤ b → 2 ^ b ≡ 2 ^ (b - 16) * 65536
split b h = let e : b ≡ b - 16 + 16 = omega arith in ap (λ (k : ℕ). 2 ^ k) e ∙ pow-add 2 (b - 16) 16

wrap : (k n : ℕ) → n < k * 65536 → (k * 65536 - suc n) % 65536 ≡ 65535 - n % 65536
wrap k n h = omega arith

mod_bits : (w : Width) (z : ℤ) → T (leb 16 (bits w)) → SFits w z → of_z w z % 65536 ≡ mod16 z
unfolding mod16
mod_bits w (pos n) t f = refl
mod_bits w (negsuc n) t f =
    let e = split (bits w) (leb→le 16 (bits w) t) in
    ap (λ (m : ℕ). (m - suc n) % 65536) e
    ∙ wrap (2 ^ (bits w - 16)) n (lt_of_lt_of_le (half_full w f.sfits) (le_of_eq e))

pub mask : (w : Width) (z : ℤ) → T (leb 16 (bits w)) → SFits w z → bit_and (of_z w z) 65535 ≡ mod16 z
mask w z t f = and_mask (of_z w z) 16 ∙ mod_bits w z t f

pub mod16_le : (z : ℤ) → mod16 z ≤ 65535
unfolding mod16
mod16_le (pos n) = omega arith
mod16_le (negsuc n) = omega arith

-- ---- the range of a cut is an i16's

sel_mag : (t : Bool) (m : ℕ) → m ≤ 65535 → ltb m 32768 ≡ t → mag (sel t (pos m) (negsuc (65535 - m))) < 32768
sel_mag true m h e = ltb-true m 32768 e
sel_mag false m h e = let k = ltb-false m 32768 e in omega arith

pub cut_fits : (z : ℤ) → SFits w16 (cut z)
unfolding cut read16
cut_fits z = record { sfits = sel_mag (ltb (mod16 z) 32768) (mod16 z) (mod16_le z) refl }

-- ---- a number in the range is its own cut

pub cut_same : (z : ℤ) → SFits w16 z → cut z ≡ z
unfolding cut read16 mod16
cut_same (pos n) f = let h = f.sfits in let e : n % 65536 ≡ n = omega arith in rw (e, lt-ltb n 32768 h)
cut_same (negsuc n) f =
    let h = f.sfits in
    let e : 65535 - n % 65536 ≡ 65535 - n = omega arith in
    let u : 65535 - (65535 - n) ≡ n = omega arith in
    rw (e, le-ltb (65535 - n) 32768 (omega arith), u)

-- ---- `cut` goes with sums: a number may be cut before it is added to

mod_sub : (a b : ℕ) → mod16 (sub_ℕ a (suc b)) ≡ (a % 65536 + (65535 - b % 65536)) % 65536
unfolding mod16
mod_sub a b =
    sub_cases (λ (z : ℤ). mod16 z ≡ (a % 65536 + (65535 - b % 65536)) % 65536) a (suc b) (λ h. omega arith) (λ h. omega arith)

pub mod_add : (a b : ℤ) → mod16 (a +ℤ b) ≡ (mod16 a + mod16 b) % 65536
unfolding mod16
mod_add (pos a) (pos b) = omega arith
mod_add (pos a) (negsuc b) = mod_sub a b
mod_add (negsuc a) (pos b) = let e = mod_sub b a in omega arith
mod_add (negsuc a) (negsuc b) = omega arith

mod_read : (t : Bool) (m : ℕ) → m ≤ 65535 → ltb m 32768 ≡ t → mod16 (sel t (pos m) (negsuc (65535 - m))) ≡ m
unfolding mod16
mod_read true m h e = omega arith
mod_read false m h e = omega arith

pub mod_cut : (z : ℤ) → mod16 (cut z) ≡ mod16 z
unfolding cut read16
mod_cut z = mod_read (ltb (mod16 z) 32768) (mod16 z) (mod16_le z) refl

pub cut_add : (a b : ℤ) → cut (cut a +ℤ b) ≡ cut (a +ℤ b)
unfolding cut
cut_add a b = ap read16 (mod_add (cut a) b ∙ ap (λ (m : ℕ). (m + mod16 b) % 65536) (mod_cut a) ∙ sym (mod_add a b))
