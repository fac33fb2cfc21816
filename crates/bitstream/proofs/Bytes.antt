-- Numbers of whole bytes, and fields as parts of them. Assumes nothing.
use Prim.Native.Nat.{ℕ, zero, suc, ◌+◌, ◌-◌, ◌*◌, ◌/◌, ◌%◌, ◌^◌, ◌≤◌, ◌<◌}
use native.Mathlib.Omega.{arith}
use native.Mathlib.Nat.{one-mul, mod-lt, add-zero}
use native.Mathlib.Numerals.{add-one}
use mathlib.Core.Path.{◌≡◌, refl, sym, ap, ◌∙◌}
use mathlib.Core.List.{List}
use lib.ListN.{length, get_or, get_or-eq_default}
use lib.Pow.{pow_mono, pow_pos, shl_exact, shr_le, shr-shr, mod-pow-add}
use Rattle.bitstream.specs.Bits.{bits, bit_at, number}
use Rattle.bitstream.proofs.Numbers.{number_lt, number_add, number_part}

byte_step : (b s m : ℕ) → (b / 2 ^ (s + 1) % 2 ^ m) * 2 + b / 2 ^ s % 2 ≡ b / 2 ^ s % 2 ^ (m + 1)
byte_step b s m = rw (← shr-shr b s 1) (sym (mod-pow-add (b / 2 ^ s) m 1))

-- a part of one byte, and a whole one
pub number_byte : (p : List ℕ) (i m : ℕ) → i % 8 + m ≤ 8 → number p i m ≡ get_or p (i / 8) 0 / 2 ^ (8 - i % 8 - m) % 2 ^ m
unfolding number bit_at
number_byte p i zero h = omega arith
number_byte p i (suc m) h =
    let e₁ : (i + m) / 8 ≡ i / 8 = omega arith in
    let e₂ : 7 - (i + m) % 8 ≡ 8 - i % 8 - suc m = omega arith in
    let e₃ : 8 - i % 8 - m ≡ (8 - i % 8 - suc m) + 1 = omega arith in
    rw (number_byte p i m (omega arith), e₁, e₂, e₃, ← add-one m) (byte_step (get_or p (i / 8) 0) (8 - i % 8 - (m + 1)) m)

pub byte_number : (p : List ℕ) (k : ℕ) → get_or p k 0 < 256 → number p (k * 8) 8 ≡ get_or p k 0
byte_number p k h =
    let e₁ : k * 8 / 8 ≡ k = omega arith in
    let e₂ : 8 - k * 8 % 8 - 8 ≡ 0 = omega arith in
    number_byte p (k * 8) 8 (omega arith) ∙ rw (e₁, e₂) (omega arith)

-- one byte more
pub byte_more : (p : List ℕ) (i k : ℕ) → get_or p (i + k) 0 < 256 → number p (i * 8) (k * 8) * 256 + get_or p (i + k) 0 ≡ number p (i * 8) ((k + 1) * 8)
byte_more p i k h =
    let e₁ : (k + 1) * 8 ≡ k * 8 + 8 = omega arith in
    let e₂ : i * 8 + k * 8 ≡ (i + k) * 8 = omega arith in
    sym (rw (e₁, number_add p (i * 8) (k * 8) 8, e₂, byte_number p (i + k) h))

-- at most 8 bytes fit a u64
pub bytes_fit : (p : List ℕ) (i k : ℕ) → k ≤ 8 → number p i (k * 8) < 2 ^ 64
bytes_fit p i k h = let l : k * 8 ≤ 64 = omega arith in omega (arith, number_lt p i (k * 8), pow_mono l)

-- ---- past the end all bits are 0
bit_past : (p : List ℕ) (i : ℕ) → bits p ≤ i → bit_at p i ≡ 0
unfolding bit_at
bit_past p i h = rw (get_or-eq_default p 0 {n = i / 8} (omega arith)) (omega (arith, shr_le 0 (7 - i % 8)))

pub number_past : (p : List ℕ) (i n : ℕ) → bits p ≤ i → number p i n ≡ 0
unfolding number
number_past p i zero h = refl
number_past p i (suc n) h = omega (arith, number_past p i n h, bit_past p (i + n) (omega arith))

-- ---- the 64 bits from a byte on, out of the packet's last bytes
pub window_of_last : (p : List ℕ) (first count : ℕ) → first + count ≡ length p → count ≤ 8
    → number p (first * 8) (count * 8) * 2 ^ (64 - count * 8) % 2 ^ 64 ≡ number p (first * 8) 64
window_of_last p first count e h =
    let x = number p (first * 8) (count * 8) in
    let s : count * 8 + (64 - count * 8) ≡ 64 = omega arith in
    let z = number_past p (first * 8 + count * 8) (64 - count * 8) (omega arith) in
    shl_exact (count * 8) (64 - count * 8) 64 (number_lt p (first * 8) (count * 8)) (omega arith)
    ∙ sym (ap (λ (n : ℕ). number p (first * 8) n) (sym s) ∙ number_add p (first * 8) (count * 8) (64 - count * 8) ∙ ap (λ (y : ℕ). x * 2 ^ (64 - count * 8) + y) z ∙ add-zero _)

-- w bits of it, with b bits behind
pub bits_of_window : (p : List ℕ) (at w b : ℕ) → at % 8 + w + b ≡ 64 → number p (at / 8 * 8) 64 / 2 ^ b % 2 ^ w ≡ number p at w
bits_of_window p at w b h =
    let e : at / 8 * 8 + at % 8 ≡ at = omega arith in
    rw (← h, number_part p (at / 8 * 8) (at % 8) w b, e)

-- ---- the lowest w bits of a number, as the code takes them
one_shifted : (w : ℕ) → w ≤ 32 → 1 * 2 ^ w % 2 ^ 64 ≡ 2 ^ w
one_shifted w h = shl_exact {a = 1} 1 w 64 (omega arith) (omega arith) ∙ one-mul (2 ^ w)

pub one_shifted_pos : (w : ℕ) → w ≤ 32 → 0 < 1 * 2 ^ w % 2 ^ 64
one_shifted_pos w h = rw (one_shifted w h) (pow_pos w)

pub lowest_fit : (x w : ℕ) → w ≤ 32 → x % (1 * 2 ^ w % 2 ^ 64) < 2 ^ 32
lowest_fit x w h = rw (one_shifted w h) (omega (arith, mod-lt x (pow_pos w), pow_mono h))

-- a field out of the n bits from its first byte on, of which b stand behind it
field_part : (p : List ℕ) (at w n b : ℕ) → w ≤ 32 → at % 8 + w + b ≡ n → number p (at / 8 * 8) n / 2 ^ b % (1 * 2 ^ w % 2 ^ 64) ≡ number p at w
field_part p at w n b l h =
    let e : at / 8 * 8 + at % 8 ≡ at = omega arith in
    rw (one_shifted w l, ← h, number_part p (at / 8 * 8) (at % 8) w b, e)

-- out of eight bytes, which are halved first, and out of its own bytes
pub field_of_eight : (p : List ℕ) (at w : ℕ) → w ≤ 32 → number p (at / 8 * 8) 64 / 2 / 2 ^ (63 - at % 8 - w) % (1 * 2 ^ w % 2 ^ 64) ≡ number p at w
field_of_eight p at w h =
    let x = number p (at / 8 * 8) 64 in
    ap (λ (y : ℕ). y % (1 * 2 ^ w % 2 ^ 64)) (shr-shr x 1 (63 - at % 8 - w)) ∙ field_part p at w 64 (1 + (63 - at % 8 - w)) h (omega arith)

pub field_of_own : (p : List ℕ) (at w : ℕ) → w ≤ 32
    → number p (at / 8 * 8) (((at + w + 7) / 8 - at / 8) * 8) / 2 ^ ((at + w + 7) / 8 * 8 - (at + w)) % (1 * 2 ^ w % 2 ^ 64) ≡ number p at w
field_of_own p at w h = field_part p at w (((at + w + 7) / 8 - at / 8) * 8) ((at + w + 7) / 8 * 8 - (at + w)) h (omega arith)

-- w bits out of two bytes, with b bits behind
pub bits_of_two : (p : List ℕ) (at w b : ℕ) → at % 8 + w + b ≡ 16 → get_or p (at / 8) 0 < 256 → get_or p (at / 8 + 1) 0 < 256
    → (get_or p (at / 8) 0 * 256 + get_or p (at / 8 + 1) 0) / 2 ^ b % 2 ^ w ≡ number p at w
bits_of_two p at w b s h l =
    let e : at / 8 * 8 + at % 8 ≡ at = omega arith in
    let two : get_or p (at / 8) 0 * 256 + get_or p (at / 8 + 1) 0 ≡ number p (at / 8 * 8) 16 = rw (← byte_number p (at / 8) h) (byte_more p (at / 8) 1 l) in
    rw (two, ← s, number_part p (at / 8 * 8) (at % 8) w b, e)
