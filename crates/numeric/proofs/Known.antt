-- What a local's bits stand for. A local of a signed type holds bits: `Known w z b` has bits that stand for z, whose magnitude is at most b.
-- Each operation makes one of its operands' (`k_add` ..), and the need that it asks is answered by its operands' (`ask-add` ..).
-- The makers are `abbrev`, so that the bits compute to what the goal has; side conditions on numerals are `tt`.
-- Assumes nothing.
use mathlib.Core.Path.{◌≡◌, sym, ap, ap₂, ◌∙◌, subst}
use mathlib.Core.Bool.{Bool}
use Prim.Native.Nat.{ℕ, suc, ◌+◌, ◌*◌, ◌^◌, ◌≤◌, ◌<◌}
use native.Mathlib.Nat.{le_refl, le_trans, le_of_eq, lt_of_le_of_lt}
use lib.Dec.{T, ltb, leb, ltb→lt, leb→le}
use lib.IntN.{ℤ, pos, negsuc, ◌+ℤ◌, ◌-ℤ◌, ◌*ℤ◌, nat_abs}
use lib.Signed.{non_neg, nat_abs-le, mag, quot_z, shr_z, lt_z}
use mir.Syntax.{Width, w16, w32}
use mir.Val.{bits, hbits, SFits, Fits, of_z, to_z}
use mir.ValLaws.{to_z-of_z, to_z_pos}
use Rattle.numeric.proofs.Magnitude.{Size, size, size_add, size_sub, size_mul, size_shr, size_quot, size_div, size_fits_law}

pub record Known (w : Width) (z : ℤ) (b : ℕ) : Type 0 where
  pub n : ℕ
  pub reads : to_z w n ≡ z
  pub bound : Size z b

-- ---- the leaves

-- a parameter, `k-of c.fits.x h`, and any number that was written and fits
abbrev pub k_of : {w : Width} {z : ℤ} {b : ℕ} → SFits w z → Size z b → Known w z b
k_of {w} {z} f h = record { n = of_z w z; reads = to_z-of_z w z f; bound = h }

-- a parameter of which nothing is known but its type
abbrev pub k_any : {w : Width} {z : ℤ} → SFits w z → Known w z (2 ^ hbits w)
k_any {w} {z} f = k_of f (size (nat_abs-le z f.sfits))

-- a call's result: `k-call c.f.ok c.f.ensures h`
abbrev pub k_call : {w : Width} {y z : ℤ} {b : ℕ} → mag y < 2 ^ hbits w → y ≡ z → Size z b → Known w z b
k_call {w} {y} f e h = record { n = of_z w y; reads = to_z-of_z w y (record { sfits = f }) ∙ e; bound = h }

-- the same, where the callee ensures the bound: `k-got c.f.ok e c.f.ensures.1`
abbrev pub k_got : {w : Width} {y z : ℤ} {b : ℕ} → mag y < 2 ^ hbits w → y ≡ z → nat_abs y ≤ b → Known w z b
k_got {b = b} f e h = k_call f e (subst (λ (v : ℤ). Size v b) e (size h))

-- bits that are known to be the number n
abbrev pub k_bits : {w : Width} {m n b : ℕ} → m ≡ n → n ≤ b → T (ltb b (2 ^ hbits w)) → Known w (pos n) b
k_bits {w} {m} {n} {b} e h t = record { n = m; reads = ap (to_z w) e ∙ to_z_pos w n (lt_of_le_of_lt h (ltb→lt b (2 ^ hbits w) t)); bound = size h }

-- an unsigned number that was cast
abbrev pub k_nat : {w : Width} (n b : ℕ) → n ≤ b → T (ltb b (2 ^ hbits w)) → Known w (pos n) b
k_nat {w} n b h t = record { n = n; reads = to_z_pos w n (lt_of_le_of_lt h (ltb→lt b (2 ^ hbits w) t)); bound = size h }

-- a literal that is not negative
abbrev pub k_lit : {w : Width} (n : ℕ) → T (ltb n (2 ^ hbits w)) → Known w (pos n) n
k_lit n t = k_nat n n (le_refl n) t

-- the literal -(k + 1)
abbrev pub k_neg : {w : Width} (k : ℕ) → T (ltb k (2 ^ hbits w)) → Known w (negsuc k) (suc k)
k_neg {w} k t = k_of (record { sfits = ltb→lt k (2 ^ hbits w) t }) (size (le_refl (suc k)))

-- the same number, written another way
abbrev pub k_is : {w : Width} {y z : ℤ} {b : ℕ} → Known w y b → y ≡ z → Known w z b
k_is {b = b} p e = record { n = p.n; reads = p.reads ∙ e; bound = subst (λ (v : ℤ). Size v b) e p.bound }

-- ---- what an operation writes, y, which is z

pub fits_as : {w : Width} {y z : ℤ} → y ≡ z → SFits w z → SFits w y
fits_as {w} e f = subst (SFits w) (sym e) f

abbrev pub k_wrote : {w : Width} {y z : ℤ} {b : ℕ} → y ≡ z → SFits w z → Size z b → Known w z b
k_wrote {w} {y} e f h = record { n = of_z w y; reads = to_z-of_z w y (fits_as e f) ∙ e; bound = h }

pub fits_at : {w : Width} {y z : ℤ} {b : ℕ} → y ≡ z → Size z b → T (ltb b (2 ^ hbits w)) → SFits w y
fits_at {w} e h t = fits_as e (size_fits_law w h t)

abbrev pub k_made : {w : Width} {y z : ℤ} {b : ℕ} → y ≡ z → Size z b → T (ltb b (2 ^ hbits w)) → Known w z b
k_made {w} {y} e h t = record { n = of_z w y; reads = to_z-of_z w y (fits_at e h t) ∙ e; bound = h }

-- ---- operations on two numbers

module _ {w : Width} {x y : ℤ} {a b : ℕ} (p : Known w x a) (q : Known w y b) where
  abbrev pub k_add : T (ltb (a + b) (2 ^ hbits w)) → Known w (x +ℤ y) (a + b)
  k_add t = k_made (ap₂ ◌+ℤ◌ p.reads q.reads) (size_add p.bound q.bound) t

  abbrev pub k_sub : T (ltb (a + b) (2 ^ hbits w)) → Known w (x -ℤ y) (a + b)
  k_sub t = k_made (ap₂ ◌-ℤ◌ p.reads q.reads) (size_sub p.bound q.bound) t

  abbrev pub k_mul : T (ltb (a * b) (2 ^ hbits w)) → Known w (x *ℤ y) (a * b)
  k_mul t = k_made (ap₂ ◌*ℤ◌ p.reads q.reads) (size_mul p.bound q.bound) t

  pub ask_add : T (ltb (a + b) (2 ^ hbits w)) → SFits w (to_z w p.n +ℤ to_z w q.n)
  ask_add t = fits_at (ap₂ ◌+ℤ◌ p.reads q.reads) (size_add p.bound q.bound) t

  pub ask_sub : T (ltb (a + b) (2 ^ hbits w)) → SFits w (to_z w p.n -ℤ to_z w q.n)
  ask_sub t = fits_at (ap₂ ◌-ℤ◌ p.reads q.reads) (size_sub p.bound q.bound) t

  pub ask_mul : T (ltb (a * b) (2 ^ hbits w)) → SFits w (to_z w p.n *ℤ to_z w q.n)
  ask_mul t = fits_at (ap₂ ◌*ℤ◌ p.reads q.reads) (size_mul p.bound q.bound) t

  -- a test of the two, as a branch has it
  pub test_lt : {t : Bool} → lt_z (to_z w p.n) (to_z w q.n) ≡ t → lt_z x y ≡ t
  test_lt e = sym (ap₂ lt_z p.reads q.reads) ∙ e

-- ---- operations on one number

module _ {w : Width} {x : ℤ} {a : ℕ} where
  -- a shift to the right by k, whose divisor is 2 ^ k, with a bound b of the result: `k-shr 3 256 p tt tt tt`
  abbrev pub k_shr : (k b : ℕ) → Known w x a → T (ltb 0 (2 ^ k)) → T (leb a (b * 2 ^ k)) → T (ltb b (2 ^ hbits w)) → Known w (shr_z x (2 ^ k)) b
  k_shr k b p t u v = k_made (ap (λ (z : ℤ). shr_z z (2 ^ k)) p.reads) (size_shr (2 ^ k) b p.bound t u) v

  -- the same, with a bound b of the result: `k-div 32 86016 p tt tt`
  abbrev pub k_div : (d b : ℕ) → Known w x a → T (leb a (b * d)) → T (ltb b (2 ^ hbits w)) → Known w (quot_z x (pos d)) b
  k_div d b p u t = k_made (ap (λ (z : ℤ). quot_z z (pos d)) p.reads) (size_div d b p.bound u) t

  pub ask_quot : (d : ℕ) (p : Known w x a) → T (ltb 0 d) → T (ltb a (2 ^ hbits w)) → (0 < d) × SFits w (quot_z (to_z w p.n) (pos d))
  ask_quot d p u t = (ltb→lt 0 d u, fits_at (ap (λ (z : ℤ). quot_z z (pos d)) p.reads) (size_quot d p.bound) t)

  -- a cast to a signed width
  abbrev pub k_cast : (w' : Width) → Known w x a → T (ltb a (2 ^ hbits w')) → Known w' x a
  k_cast w' p t = k_made p.reads p.bound t

  pub ask_cast : (w' : Width) (p : Known w x a) → T (ltb a (2 ^ hbits w')) → SFits w' (to_z w p.n)
  ask_cast w' p t = fits_at p.reads p.bound t

  -- the same, where a law says that the width holds the number
  abbrev pub k_fit : (w' : Width) → Known w x a → SFits w' x → Known w' x a
  k_fit w' p f = k_wrote p.reads f p.bound

  pub ask_fit : (w' : Width) (p : Known w x a) → SFits w' x → SFits w' (to_z w p.n)
  ask_fit w' p f = fits_as p.reads f

-- ---- what is asked of a number, of its bits' reading

module _ {w : Width} {x : ℤ} {a : ℕ} (p : Known w x a) where
  pub at_bits : (P : ℤ → Type 0) → P x → P (to_z w p.n)
  at_bits P h = subst P (sym p.reads) h

  pub ask_size : (b : ℕ) → T (leb a b) → nat_abs (to_z w p.n) ≤ b
  ask_size b t = at_bits (λ (z : ℤ). nat_abs z ≤ b) (le_trans p.bound.le (leb→le a b t))

  -- what a cast to an unsigned width gives
  pub nat_of : nat_abs (to_z w p.n) ≡ nat_abs x
  nat_of = ap nat_abs p.reads

-- a cast to an unsigned width, of a number that is not negative
pub ask_nat : {w : Width} (w' : Width) {x : ℤ} {a : ℕ} (p : Known w x a) → T (non_neg x) → T (ltb a (2 ^ bits w')) → T (non_neg (to_z w p.n)) × Fits w' (nat_abs (to_z w p.n))
ask_nat w' {x} {a} p h t = at_bits p (λ (z : ℤ). T (non_neg z) × Fits w' (nat_abs z)) (h, record { fits = lt_of_le_of_lt p.bound.le (ltb→lt a (2 ^ bits w') t) })

-- a cast of the unsigned number m, which is n, to a signed width
pub ask_up : (w : Width) {m n b : ℕ} → m ≡ n → n ≤ b → T (ltb b (2 ^ hbits w)) → SFits w (pos m)
ask_up w {b = b} e h t = record { sfits = lt_of_le_of_lt (le_trans (le_of_eq e) h) (ltb→lt b (2 ^ hbits w) t) }

-- a number that was written is read back, from the bare bound that an element, a field (`struct_told`) or a call (`.ok`) gives. z is explicit: antt does not find it under `mag`
pub back : (w : Width) (z : ℤ) → mag z < 2 ^ hbits w → to_z w (of_z w z) ≡ z
back w z h = to_z-of_z w z (record { sfits = h })

-- a number of 16 bits that was cast to 32, `k-wide c.fits.x`, and the cast's need
abbrev pub k_wide : {z : ℤ} → SFits w16 z → Known w32 z 32768
k_wide f = k_cast w32 (k_any f) tt

pub ask_wide : {z : ℤ} → SFits w16 z → SFits w32 (to_z w16 (of_z w16 z))
ask_wide f = ask_cast w32 (k_any f) tt
