-- How large a result can be, for every width. `nat_abs z ≤ b` is the one form of a bound: sums, products, shifts and quotients carry it on (`size-add` ..), and a bound below `2 ^ hbits w` gives `SFits w z`.
-- Assumes nothing.
use mathlib.Core.Path.{◌≡◌, refl, subst}
use mathlib.Core.Bool.{Bool, true, false, not, cond}
use Prim.Native.Nat.{ℕ, zero, suc, ◌+◌, ◌-◌, ◌*◌, ◌/◌, ◌^◌, ◌≤◌, ◌<◌, zero-le}
use native.Mathlib.Nat.{le_refl, le_trans, le_of_eq, le_of_suc-le-suc, lt_of_le_of_lt, div-le_self, add-le-add, mul-le-mul_left, mul-le-mul_right, div-lt_iff_lt-mul, div-le_of_le-mul, mul_comm}
use native.Mathlib.Omega.{arith}
use borrow.Author.Tests.{lt-ltb, le-ltb, ltb-true}
use lib.Dec.{T, ltb, leb, ltb→lt, leb→le, nltb→le}
use lib.IntN.{ℤ, pos, negsuc, ◌+ℤ◌, ◌-ℤ◌, ◌*ℤ◌, neg_ℤ, nat_abs, sub_ℕ}
use lib.Signed.{mag, quot_z, shr_z, lt_z, non_neg}
use mir.Syntax.{Width}
use mir.Val.{hbits, SFits}

-- ---- a difference of two naturals

by_test : (P : ℤ → Type 0) (t : Bool) (x y : ℤ) → (T t → P x) → (T (not t) → P y) → P (cond t x y)
by_test P true x y f g = f tt
by_test P false x y f g = g tt

-- what holds of it whichever way it goes
pub sub_cases : (P : ℤ → Type 0) (a b : ℕ) → (a < b → P (negsuc (b - suc a))) → (b ≤ a → P (pos (a - b))) → P (sub_ℕ a b)
sub_cases P a b f g = by_test P (ltb a b) (negsuc (b - suc a)) (pos (a - b)) (λ t. f (ltb→lt a b t)) (λ t. g (nltb→le a b t))

pub sub_less : (a b : ℕ) → a < b → sub_ℕ a b ≡ negsuc (b - suc a)
sub_less a b h = rw (lt-ltb a b h)

pub sub_more : (a b : ℕ) → b ≤ a → sub_ℕ a b ≡ pos (a - b)
sub_more a b h = rw (le-ltb a b h)

-- ---- what a test against 0 says

pub neg_yes : (z : ℤ) → lt_z z (pos 0) ≡ true → (n : ℕ) × (z ≡ negsuc n)
neg_yes (pos n) e = absurd (let h = ltb-true n 0 e in omega arith)
neg_yes (negsuc n) e = (n, refl)

pub neg_no : (z : ℤ) → lt_z z (pos 0) ≡ false → (n : ℕ) × (z ≡ pos n)
neg_no (pos n) e = (n, refl)
neg_no (negsuc n) e = absurd (subst T e tt)

pub plus_ok : (z : ℤ) → lt_z z (pos 0) ≡ false → T (non_neg z)
plus_ok (pos n) e = tt
plus_ok (negsuc n) e = absurd (subst T e tt)

-- ---- the magnitude of a result

abs_subℕ : (a b : ℕ) → nat_abs (sub_ℕ a b) ≤ a + b
abs_subℕ a b = sub_cases (λ (z : ℤ). nat_abs z ≤ a + b) a b (λ h. omega arith) (λ h. omega arith)

pub abs_add : (x y : ℤ) → nat_abs (x +ℤ y) ≤ nat_abs x + nat_abs y
abs_add (pos a) (pos b) = le_refl (a + b)
abs_add (pos a) (negsuc b) = abs_subℕ a (suc b)
abs_add (negsuc a) (pos b) = le_trans (abs_subℕ b (suc a)) (omega arith)
abs_add (negsuc a) (negsuc b) = omega arith

pub abs_neg : (z : ℤ) → nat_abs (neg_ℤ z) ≡ nat_abs z
abs_neg (pos zero) = refl
abs_neg (pos (suc n)) = refl
abs_neg (negsuc n) = refl

pub abs_mul : (x y : ℤ) → nat_abs (x *ℤ y) ≡ nat_abs x * nat_abs y
abs_mul (pos a) (pos b) = refl
abs_mul (pos a) (negsuc b) = abs_neg (pos (a * suc b))
abs_mul (negsuc a) (pos b) = abs_neg (pos (suc a * b))
abs_mul (negsuc a) (negsuc b) = refl

-- a shift that rounds down, by the divisor m
pub abs_shr : (z : ℤ) (m : ℕ) → nat_abs (shr_z z m) ≤ nat_abs z
abs_shr (pos n) m = div-le_self n m
abs_shr (negsuc n) m = let h = div-le_self n m in omega arith

-- a division toward zero, by d
pub abs_quot : (z : ℤ) (d : ℕ) → nat_abs (quot_z z (pos d)) ≡ nat_abs z / d
abs_quot (pos n) d = refl
abs_quot (negsuc n) d = abs_neg (pos (suc n / d))

-- ---- where a width is used to its very end, as -32768 at an i16: `mag`, which is n for n and for -(n + 1), loses nothing

pub mag≤abs : (z : ℤ) → mag z ≤ nat_abs z
mag≤abs (pos n) = le_refl n
mag≤abs (negsuc n) = omega arith

mag_neg : (r : ℕ) {a : ℕ} → r ≤ suc a → mag (neg_ℤ (pos r)) ≤ a
mag_neg zero h = zero-le
mag_neg (suc r) h = le_of_suc-le-suc h

pub mag_quot : (z : ℤ) (d : ℕ) → mag (quot_z z (pos d)) ≤ mag z
mag_quot (pos n) d = div-le_self n d
mag_quot (negsuc n) d = mag_neg (suc n / d) (div-le_self (suc n) d)

-- ---- a bound, as a record, so that its numbers can be inferred. Bounds are numerals, so that each side condition is `tt`

pub record Size (z : ℤ) (b : ℕ) : Type 0 where
  pub le : nat_abs z ≤ b

pub size : {z : ℤ} {b : ℕ} → nat_abs z ≤ b → Size z b
size h = record { le = h }

pub size_up : {z : ℤ} {a b : ℕ} → Size z a → a ≤ b → Size z b
size_up h k = size (le_trans h.le k)

pub size_add : {x y : ℤ} {a b : ℕ} → Size x a → Size y b → Size (x +ℤ y) (a + b)
size_add {x} {y} h k = size (le_trans (abs_add x y) (add-le-add h.le k.le))

pub size_neg : {x : ℤ} {a : ℕ} → Size x a → Size (neg_ℤ x) a
size_neg {x} h = size (le_trans (le_of_eq (abs_neg x)) h.le)

pub size_sub : {x y : ℤ} {a b : ℕ} → Size x a → Size y b → Size (x -ℤ y) (a + b)
size_sub h k = size_add h (size_neg k)

pub size_mul : {x y : ℤ} {a b : ℕ} → Size x a → Size y b → Size (x *ℤ y) (a * b)
size_mul {x} {y} {a} {b} h k =
    size (le_trans (le_of_eq (abs_mul x y)) (le_trans (mul-le-mul_left (nat_abs x) k.le) (mul-le-mul_right b h.le)))

-- a shift by the divisor m, with a bound b of the result: `size-shr 65536 32768 h tt tt`
pub size_shr : {x : ℤ} {a : ℕ} (m b : ℕ) → Size x a → T (ltb 0 m) → T (leb a (b * m)) → Size (shr_z x m) b
size_shr {x = pos n} m b h p t = size (div-le_of_le-mul m (le_trans (le_trans h.le (leb→le _ _ t)) (le_of_eq (mul_comm b m))))
size_shr {x = negsuc n} m b h p t = size ((div-lt_iff_lt-mul (ltb→lt 0 m p)).1 (le_trans h.le (leb→le _ _ t)))

-- a division toward zero by d: no larger than the dividend, and with a bound b of the result
pub size_quot : {x : ℤ} {a : ℕ} (d : ℕ) → Size x a → Size (quot_z x (pos d)) a
size_quot {x} d h = size (le_trans (le_of_eq (abs_quot x d)) (le_trans (div-le_self (nat_abs x) d) h.le))

pub size_div : {x : ℤ} {a : ℕ} (d b : ℕ) → Size x a → T (leb a (b * d)) → Size (quot_z x (pos d)) b
size_div {x} {a} d b h t =
    size (le_trans (le_of_eq (abs_quot x d)) (div-le_of_le-mul d (le_trans (le_trans h.le (leb→le a (b * d) t)) (le_of_eq (mul_comm b d)))))

pub size_fits_law : (w : Width) {z : ℤ} {b : ℕ} → Size z b → T (ltb b (2 ^ hbits w)) → SFits w z
size_fits_law w {z} {b} h t = record { sfits = lt_of_le_of_lt (le_trans (mag≤abs z) h.le) (ltb→lt b (2 ^ hbits w) t) }
