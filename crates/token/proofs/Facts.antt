-- What a token's extra bits are, as one number; and the code's arithmetic. Assumes nothing.
use Prim.Native.Nat.{ℕ, ◌+◌, ◌*◌, ◌/◌, ◌%◌, ◌^◌, ◌≤◌, ◌<◌}
use native.Mathlib.Omega.{arith}
use native.Mathlib.Nat.{one-mul, mod-lt}
use mathlib.Core.Path.{◌≡◌, ap, ◌∙◌}
use mathlib.Core.List.{List}
use lib.Pow.{pow_pos, pow_mono, shl_exact}
use lib.Pow as P
use borrow.Author.Tests.{lt-ltb, le-ltb}
use Rattle.bitstream.specs.Bits.{bits, number}
use Rattle.bitstream.specs.Reading.{got, refused, field, whole}
use Rattle.bitstream.proofs.Numbers.{number_lt, number_add}
use Rattle.bitstream.proofs.Fields.{field_got, field_end, field_cases, field_value}
use Rattle.bitstream.proofs.Laws.{whole_got, whole_refused}
use Rattle.numeric.specs.Sign.{with_sign}
use Rattle.token.specs.Token.{Row, row_of, meaning, extra}
use Rattle.token.specs.Answer.{as_token, sign_of, size_of, zeros_of}
use Rattle.token.specs.declared.Token.TheVariants.{EndOfBlock, ZeroRun, Coefficient}

-- ---- a field in two parts
pub field_two : (a b : ℕ) (p : List ℕ) (i : ℕ) {x e : ℕ} → field (a + b) p i ≡ got x e → (field a p i ≡ got (x / 2 ^ b) (i + a)) × (field b p (i + a) ≡ got (x % 2 ^ b) e)
field_two a b p i {x} {e} h =
    let v = field_value (a + b) p i h in
    let l = number_lt p (i + a) b in
    let hi : x / 2 ^ b ≡ number p i a = rw (v.0, number_add p i a b) (P.high (number p i a) b l) in
    let lo : x % 2 ^ b ≡ number p (i + a) b = rw (v.0, number_add p i a b) (P.low (number p i a) b l) in
    let d : e ≡ i + a + b = omega (arith, v.1) in
    (rw hi (field_got a p i (omega (arith, v.2))), rw (lo, d) (field_got b p (i + a) (omega (arith, v.2))))

-- ---- the extra bits, read as one field
module _ (t : ℕ) (p : List ℕ) (i : ℕ) where
  abbrev row : Row
  row = row_of t

  pub extra_got : {x e : ℕ} → field (row.sign_bits + row.size_bits + row.zero_bits) p i ≡ got x e
      → whole (extra t) p i ≡ got (meaning t (sign_of row x) (size_of row x) (zeros_of row x)) e
  unfolding extra
  extra_got {x} {e} h =
      let u = field_two (row.sign_bits + row.size_bits) row.zero_bits p i h in
      let v = field_two row.sign_bits row.size_bits p i u.0 in
      let d : i + row.sign_bits + row.size_bits ≡ i + (row.sign_bits + row.size_bits) = omega arith in
      whole_got (extra t) p i (rw (v.0, v.1, u.1))

  -- cut by the packet's end
  pub extra_cut : bits p < i + (row.sign_bits + row.size_bits + row.zero_bits) → whole (extra t) p i ≡ refused 4 i
  unfolding extra
  extra_cut l =
      field_cases row.sign_bits p i
      (λ a f.
      field_cases row.size_bits p (i + row.sign_bits)
      (λ b g. whole_refused (extra t) p i {k = 4} {e = i + row.sign_bits + row.size_bits} (rw (f, g, field_end row.zero_bits p (i + row.sign_bits + row.size_bits) (omega arith))))
      (λ b g. whole_refused (extra t) p i {k = 4} {e = i + row.sign_bits} (rw (f, g))))
      (λ a f. whole_refused (extra t) p i {k = 4} {e = i} (rw f))

-- ---- what a token means, by its number
module _ (t s n z e : ℕ) where
  pub means_end : t < 7 → as_token (got (meaning t s n z) e) ≡ EndOfBlock n e
  unfolding meaning
  means_end h = rw (lt-ltb t 7 h)

  pub means_zeros : 7 ≤ t → t < 9 → as_token (got (meaning t s n z) e) ≡ ZeroRun n e
  unfolding meaning
  means_zeros l h = rw (le-ltb t 7 l, lt-ltb t 9 h)

  pub means_value : 9 ≤ t → as_token (got (meaning t s n z) e) ≡ Coefficient z (with_sign s n) e
  unfolding meaning
  means_value h = rw (le-ltb t 7 (omega arith), le-ltb t 9 h)

-- ---- the code's shifts
shl_one : (n : ℕ) → n ≤ 12 → (1 * 2 ^ n) % 2 ^ 32 ≡ 2 ^ n
shl_one n h = shl_exact {a = 1} 1 n 32 (omega arith) (omega arith) ∙ one-mul (2 ^ n)

pub shl_pos : (n : ℕ) → n ≤ 12 → 0 < (1 * 2 ^ n) % 2 ^ 32
shl_pos n h = rw (shl_one n h) (pow_pos n)

pub low_is : (x n : ℕ) → n ≤ 12 → (x % ((1 * 2 ^ n) % 2 ^ 32) ≡ x % 2 ^ n) × (x % ((1 * 2 ^ n) % 2 ^ 32) ≤ 4095)
low_is x n h = let e = shl_one n h in (ap (λ (m : ℕ). x % m) e, rw e (omega (arith, mod-lt x (pow_pos n), pow_mono h)))
