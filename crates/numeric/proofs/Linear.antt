-- Linear arithmetic over ℤ by `omega`: z is `up z` less `dn z`, two natural numbers of which one is 0. Each operation has a law on the parts, which goes into omega's list; `ext` and `less` bring an equation or a test of integers to the parts.
-- As x + y ≡ y + x: `ext (x +ℤ y) (y +ℤ x) (omega (arith, parts_add x y, parts_add y x))`.
-- Assumes nothing.
use mathlib.Core.Path.{◌≡◌, refl, sym, ap, ◌∙◌}
use Prim.Native.Nat.{ℕ, zero, suc, ◌+◌, ◌*◌}
use native.Mathlib.Omega.{arith}
use native.Mathlib.Nat.{zero-mul}
use lib.IntN.{ℤ, pos, negsuc, ◌+ℤ◌, ◌*ℤ◌, neg_ℤ, sub_ℕ}
use Rattle.numeric.proofs.Magnitude.{sub_cases}

abbrev pub up : ℤ → ℕ
up (pos n) = n
up (negsuc n) = 0

abbrev pub dn : ℤ → ℕ
dn (pos n) = 0
dn (negsuc n) = suc n

-- ---- the parts of a result

pub parts_sub : (a b : ℕ) → up (sub_ℕ a b) + b ≡ a + dn (sub_ℕ a b)
parts_sub a b = sub_cases (λ (z : ℤ). up z + b ≡ a + dn z) a b (λ h. omega arith) (λ h. omega arith)

pub parts_add : (x y : ℤ) → up (x +ℤ y) + (dn x + dn y) ≡ (up x + up y) + dn (x +ℤ y)
parts_add (pos a) (pos b) = omega arith
parts_add (pos a) (negsuc b) = omega (arith, parts_sub a (suc b))
parts_add (negsuc a) (pos b) = omega (arith, parts_sub b (suc a))
parts_add (negsuc a) (negsuc b) = omega arith

pub up_neg : (z : ℤ) → up (neg_ℤ z) ≡ dn z
up_neg (pos zero) = refl
up_neg (pos (suc n)) = refl
up_neg (negsuc n) = refl

pub dn_neg : (z : ℤ) → dn (neg_ℤ z) ≡ up z
dn_neg (pos zero) = refl
dn_neg (pos (suc n)) = refl
dn_neg (negsuc n) = refl

-- a product with a number that is not negative
pub up_mul : (z : ℤ) (k : ℕ) → up (z *ℤ pos k) ≡ up z * k
up_mul (pos n) k = refl
up_mul (negsuc n) k = up_neg (pos (suc n * k)) ∙ sym (zero-mul k)

pub dn_mul : (z : ℤ) (k : ℕ) → dn (z *ℤ pos k) ≡ dn z * k
dn_mul (pos n) k = sym (zero-mul k)
dn_mul (negsuc n) k = dn_neg (pos (suc n * k))

-- ---- what a fact about integers is, on the parts

pub ext : (x y : ℤ) → up x + dn y ≡ up y + dn x → x ≡ y
ext (pos a) (pos b) e = let k : a ≡ b = omega arith in ap pos k
ext (pos a) (negsuc b) e = absurd (omega arith)
ext (negsuc a) (pos b) e = absurd (omega arith)
ext (negsuc a) (negsuc b) e = let k : a ≡ b = omega arith in ap negsuc k
