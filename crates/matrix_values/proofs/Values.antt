-- What the functions on single values compute. Assumes nothing.
use Prim.Native.Nat.{ℕ, zero, suc, ◌+◌, ◌-◌, ◌*◌, ◌/◌, ◌%◌, ◌^◌, ◌≤◌, ◌<◌}
use native.Mathlib.Omega.{arith}
use native.Mathlib.Nat.{mul-le-mul}
use mathlib.Core.Path.{◌≡◌, refl, sym, ap, ◌∙◌, subst}
use mathlib.Core.List.{List}
use lib.Arith.{digits_div}
use lib.ListN.{get_or}
use borrow.Author.Tests.{eq-eqb, ne_eqb}
use Rattle.bitstream.specs.Bits.{number}
use Rattle.bitstream.proofs.Bytes.{byte_number, bits_of_two}
use Rattle.matrix_values.specs.Values.{minimum, scaled}

-- ---- 8 bits out of the byte that they begin in and the next one, or the same again where they are it
pub byte_of_two : (p : List ℕ) (i t : ℕ) → t < 8 → get_or p i 0 < 256 → get_or p (i + (t + 7) / 8) 0 < 256 → (get_or p i 0 * 256 + get_or p (i + (t + 7) / 8) 0) / 2 ^ (8 - t) % 256 ≡ number p (i * 8 + t) 8
byte_of_two p i zero h a b =
    let e : i + (0 + 7) / 8 ≡ i = omega arith in
    let z : i * 8 + 0 ≡ i * 8 = omega arith in
    let two : 2 ^ (8 - 0) ≡ 256 = refl in
    rw (e, z, two, byte_number p i a) (ap (λ (x : ℕ). x % 256) (digits_div (get_or p i 0) a) ∙ omega arith)
byte_of_two p i (suc t) h a b =
    let e : (i * 8 + suc t) / 8 ≡ i = omega arith in
    let z : i + (suc t + 7) / 8 ≡ i + 1 = omega arith in
    let next : get_or p (i + 1) 0 < 256 = subst (λ (k : ℕ). get_or p k 0 < 256) z b in
    ap (λ (k : ℕ). (get_or p i 0 * 256 + get_or p k 0) / 2 ^ (8 - suc t) % 256) z
    ∙ ap (λ (k : ℕ). (get_or p k 0 * 256 + get_or p (k + 1) 0) / 2 ^ (8 - suc t) % 256) (sym e)
    ∙ bits_of_two p (i * 8 + suc t) 8 (8 - suc t) (omega arith) (subst (λ (k : ℕ). get_or p k 0 < 256) (sym e) a) (subst (λ (k : ℕ). get_or p (k + 1) 0 < 256) (sym e) next)

-- ---- the least value
module _ (type c : ℕ) where
  pub least_intra_dc : c ≡ 0 → type ≡ 0 → 16 ≡ minimum type c
  unfolding minimum
  least_intra_dc h l = rw (eq-eqb _ _ h, eq-eqb _ _ l)

  pub least_inter_dc : c ≡ 0 → (type ≡ 0 → ⊥) → 32 ≡ minimum type c
  unfolding minimum
  least_inter_dc h l = rw (eq-eqb _ _ h, ne_eqb _ _ l)

  pub least_intra_ac : (c ≡ 0 → ⊥) → type ≡ 0 → 8 ≡ minimum type c
  unfolding minimum
  least_intra_ac h l = rw (ne_eqb _ _ h, eq-eqb _ _ l)

  pub least_inter_ac : (c ≡ 0 → ⊥) → (type ≡ 0 → ⊥) → 16 ≡ minimum type c
  unfolding minimum
  least_inter_ac h l = rw (ne_eqb _ _ h, ne_eqb _ _ l)

  -- all but the first have the same
  pub least_same : (c ≡ 0 → ⊥) → minimum type 1 ≡ minimum type c
  unfolding minimum
  least_same h = rw (ne_eqb _ _ h)

-- ---- scaling: the product fits
pub product_fits : (s b : ℕ) → s < 65536 → b < 65536 → s * b ≤ 4294836225
product_fits s b h l = let m : s * b ≤ 65535 * 65535 = mul-le-mul {n₁ = s} {m₁ = b} {n₂ = 65535} {m₂ = 65535} (omega arith) (omega arith) in omega arith

-- a hundredth is a 25th of a quarter
module _ (m s b : ℕ) (low : m ≤ 32) where
  pub scaled_high : 25600 ≤ s * b / 4 → 4096 ≡ scaled m s b
  unfolding scaled
  scaled_high h = omega arith

  pub scaled_low : s * b / 4 < 25600 → 4 * (s * b / 4 / 25) ≤ m → m ≡ scaled m s b
  unfolding scaled
  scaled_low h l = omega arith

  pub scaled_middle : s * b / 4 < 25600 → m < 4 * (s * b / 4 / 25) → 4 * (s * b / 4 / 25) ≡ scaled m s b
  unfolding scaled
  scaled_middle h l = omega arith
