-- The laws of `kept` and `clearFrom`. Assumes nothing.
use Prim.Native.Nat.{ℕ, zero, suc, ◌+◌, ◌-◌, ◌*◌, ◌/◌, ◌%◌, ◌^◌, ◌≤◌, ◌<◌, min}
use native.Mathlib.Omega.{arith}
use native.Mathlib.Nat.{zero-add, mul_assoc, pow-suc}
use native.Mathlib.Numerals.{add-one}
use mathlib.Core.Path.{◌≡◌, refl, sym, ap, ◌∙◌}
use mathlib.Core.List.{List}
use mathlib.Core.Bool.{Bool, true, false}
use lib.Dec.{ltb}
use lib.ListN.{length, get_or, replicate}
use lib.Seq.{ext_get_or}
use lib.Pow.{shr-shr, shl-shr, shl_lt, pow-add}
use borrow.Author.Tests.{ltb-true, ltb-false, eqb-true, eq-eqb}
use Rattle.bitstream.specs.Bits.{bits, bit_at, number}
use Rattle.bitstream.proofs.Numbers.{number_lt, number_same}
use Rattle.bitstream.proofs.Laws.{Agree}
use Rattle.bitstream.proofs.Lists.{tabulated_length, tabulated_at}
use Rattle.table_memory.specs.Kept.{kept_byte, kept, clear_from}
use Rattle.table_memory.specs.Genuine.{Bytes}
use Rattle.bitstream.proofs.Bytes.{byte_number}
use Rattle.table_memory.proofs.Bits.{bit_of_number, zero_number, number_zero}

bit_is : (t : List ℕ) (i : ℕ) → bit_at t i ≡ get_or t (i / 8) 0 / 2 ^ (7 - i % 8) % 2
unfolding bit_at
bit_is t i = refl

-- two lists of bytes with the same bits are the same
pub same_bits : (s t : List ℕ) → length s ≡ length t → Bytes s → Bytes t → ((i : ℕ) → i < bits s → bit_at s i ≡ bit_at t i) → s ≡ t
same_bits s t l bs bt h =
    ext_get_or 0 s t l (λ k r. sym (byte_number s k (bs k r)) ∙ number_same s t (k * 8) 8 (λ i u. h i (omega arith)) ∙ byte_number t k (bt k (omega arith)))

-- ---- one byte
module _ (p : List ℕ) (e k : ℕ) where
  abbrev r : ℕ
  r = min 8 (e - k * 8)

  pub byte_lt : kept_byte p e k < 256
  unfolding kept_byte
  byte_lt = let h : r + (8 - r) ≡ 8 = omega arith in rw h at (shl_lt r (8 - r) (number_lt p (k * 8) r))

  pub byte_front : (j : ℕ) → j < 8 → k * 8 + j < e → kept_byte p e k / 2 ^ (7 - j) % 2 ≡ bit_at p (k * 8 + j)
  unfolding kept_byte
  byte_front j h l =
      let s : 7 - j ≡ (8 - r) + (r - 1 - j) = omega arith in
      ap (λ (x : ℕ). number p (k * 8) r * 2 ^ (8 - r) / 2 ^ x % 2) s
      ∙ ap (λ (x : ℕ). x % 2) (sym (shr-shr (number p (k * 8) r * 2 ^ (8 - r)) (8 - r) (r - 1 - j)) ∙ ap (λ (x : ℕ). x / 2 ^ (r - 1 - j)) (shl-shr (number p (k * 8) r) (8 - r)))
      ∙ bit_of_number p (k * 8) r j (omega arith)

  pub byte_back : (j : ℕ) → j < 8 → e ≤ k * 8 + j → kept_byte p e k / 2 ^ (7 - j) % 2 ≡ 0
  unfolding kept_byte
  byte_back j h l =
      let d = j - r in
      let x = number p (k * 8) r in
      let s : 8 - r ≡ (d + 1) + (7 - j) = omega arith in
      let q : x * 2 ^ (8 - r) ≡ x * 2 ^ d * 2 * 2 ^ (7 - j) = ap (λ (y : ℕ). x * 2 ^ y) s ∙ ap (λ (y : ℕ). x * y) (pow-add 2 (d + 1) (7 - j) ∙ ap (λ (y : ℕ). y * 2 ^ (7 - j)) (rw (add-one d, pow-suc))) ∙ sym (mul_assoc x (2 ^ d * 2) (2 ^ (7 - j))) ∙ ap (λ (y : ℕ). y * 2 ^ (7 - j)) (sym (mul_assoc x (2 ^ d) 2)) in
      ap (λ (y : ℕ). y / 2 ^ (7 - j) % 2) q ∙ ap (λ (y : ℕ). y % 2) (shl-shr (x * 2 ^ d * 2) (7 - j)) ∙ omega arith

-- ---- the list
module _ (p : List ℕ) (e n : ℕ) where
  pub kept_length : length (kept p e n) ≡ n
  unfolding kept
  kept_length = tabulated_length (kept_byte p e) 0 n

  pub kept_at : (k : ℕ) → k < n → get_or (kept p e n) k 0 ≡ kept_byte p e k
  unfolding kept
  kept_at k h = tabulated_at (kept_byte p e) 0 n k h ∙ ap (kept_byte p e) (zero-add k)

  pub kept_bytes : Bytes (kept p e n)
  kept_bytes k h = rw (kept_at k (omega (arith, kept_length))) (byte_lt p e k)

  kept_bit : (i : ℕ) → i < n * 8 → bit_at (kept p e n) i ≡ kept_byte p e (i / 8) / 2 ^ (7 - i % 8) % 2
  kept_bit i h = bit_is (kept p e n) i ∙ ap (λ (b : ℕ). b / 2 ^ (7 - i % 8) % 2) (kept_at (i / 8) (omega arith))

  -- its first e bits are those of p
  pub kept_front : (i : ℕ) → i < e → i < n * 8 → bit_at (kept p e n) i ≡ bit_at p i
  kept_front i h l = kept_bit i l ∙ byte_front p e (i / 8) (i % 8) (omega arith) (omega arith) ∙ ap (bit_at p) (omega arith)

  -- and zeros behind
  pub kept_back : (i : ℕ) → e ≤ i → i < n * 8 → bit_at (kept p e n) i ≡ 0
  kept_back i h l = kept_bit i l ∙ byte_back p e (i / 8) (i % 8) (omega arith) (omega arith)

  pub kept_agree : e ≤ n * 8 → Agree e p (kept p e n)
  kept_agree h = record { same = λ k l. sym (kept_front k l (omega arith)); room = omega (arith, kept_length) }

-- nothing else is such a list of n bytes
pub kept_unique : (p t : List ℕ) (e n : ℕ) → length t ≡ n → Bytes t → ((i : ℕ) → i < e → i < n * 8 → bit_at t i ≡ bit_at p i) → ((i : ℕ) → e ≤ i → i < n * 8 → bit_at t i ≡ 0)
    → t ≡ kept p e n
kept_unique p t e n l b front back =
    same_bits t (kept p e n) (l ∙ sym (kept_length p e n)) b (kept_bytes p e n) (λ i h. go i (omega arith) (ltb i e) refl)
  where
    go : (i : ℕ) → i < n * 8 → (u : Bool) → ltb i e ≡ u → bit_at t i ≡ bit_at (kept p e n) i
    go i h true u = let w = ltb-true _ _ u in front i w h ∙ sym (kept_front p e n i w h)
    go i h false u = let w = ltb-false _ _ u in back i w h ∙ sym (kept_back p e n i w h)

-- a list of n bytes that is clear from e on is what it keeps of itself
pub kept_self : (t : List ℕ) (e n : ℕ) → length t ≡ n → Bytes t → ((i : ℕ) → e ≤ i → i < n * 8 → bit_at t i ≡ 0) → t ≡ kept t e n
kept_self t e n l b back = kept_unique t t e n l b (λ i h u. refl) back

-- ---- clear from a place on
pub clear_bits : (t : List ℕ) (e : ℕ) → clear_from t e ≡ true → (i : ℕ) → e ≤ i → i < bits t → bit_at t i ≡ 0
unfolding clear_from
clear_bits t e h i l u = number_zero t e (bits t - e) (eqb-true _ _ h) i l (omega arith)

pub bits_clear : (t : List ℕ) (e : ℕ) → ((i : ℕ) → e ≤ i → i < bits t → bit_at t i ≡ 0) → clear_from t e ≡ true
unfolding clear_from
bits_clear t e h = eq-eqb _ _ (zero_number t e (bits t - e) (λ k l u. h k l (omega arith)))

-- ---- zeros
pub replicate_at : (n k : ℕ) → ◌≡◌ {A = ℕ} (get_or (replicate n 0) k 0) 0
replicate_at zero k = refl
replicate_at (suc n) zero = refl
replicate_at (suc n) (suc k) = replicate_at n k

pub zeros_number : (n i w : ℕ) → number (replicate n 0) i w ≡ 0
zeros_number n i w = zero_number (replicate n 0) i w (λ k a b. bit_is (replicate n 0) k ∙ rw (replicate_at n (k / 8)) (zero_shr (7 - k % 8)))
  where
    zero_shr : (s : ℕ) → 0 / 2 ^ s % 2 ≡ 0
    zero_shr s = omega (arith, lib.Pow.shr_le 0 s)
