-- The complete values of tokens: what they say is what the token means. Assumes nothing.
use Prim.Native.Nat.{ℕ, ◌+◌, ◌-◌, ◌*◌, ◌/◌, ◌%◌, ◌^◌, ◌≤◌, ◌<◌}
use native.Mathlib.Omega.{arith}
use native.Mathlib.Nat.{zero-add, mod-lt}
use mathlib.Core.Path.{◌≡◌, refl, sym, ap, ◌∙◌}
use mathlib.Core.Bool.{Bool, true, false, cond, ◌&&◌}
use lib.Dec.{eqb, ltb, leb}
use lib.IntN.{ℤ, pos, neg_ℤ, ◌+ℤ◌, ◌-ℤ◌, pos-+ℤ-pos, +ℤ-neg_ℤ_cancel, neg_ℤ-+ℤ, +ℤ_assoc, +ℤ_invr, +ℤ_idl}
use lib.ListN.{length, get_or, get_or-eq_default}
use lib.Pow.{pow_pos, pow_mono}
use borrow.Author.Tests.{ltb-true, ltb-false, leb-true, lt-ltb, le-leb}
use Rattle.bitstream.specs.Reading.{choose}
use Rattle.bitstream.proofs.Lists.{tabulated_length, tabulated_at}
use Rattle.bitstream.proofs.ListLaws.{and_both}
use Rattle.numeric.specs.Sign.{with_sign}
use Rattle.token.specs.Token.{Meaning, end_of_block, zero_run, coefficient, row_of, meaning}
use Rattle.token.specs.Answer.{extra_bits, sign_of, size_of, zeros_of, biased, saying, complete_of, complete_at, token_complete, kind_of, complete_meaning}
use Rattle.token.proofs.Rows.{size_base_most, zero_base_most}

-- ---- 512 plus a value, and back
plus : (n : ℕ) → pos (512 + n) -ℤ pos 512 ≡ pos n
plus n = let z : 512 + n ≡ n + 512 = omega arith in ap (λ (x : ℕ). pos x -ℤ pos 512) z ∙ (ap (λ (x : ℤ). x -ℤ pos 512) (sym (pos-+ℤ-pos n 512)) ∙ +ℤ-neg_ℤ_cancel (pos n) (pos 512))

minus_from : (k n m : ℕ) → k + n ≡ m → pos k -ℤ pos m ≡ neg_ℤ (pos n)
minus_from k n m h =
    ap (λ (x : ℤ). pos k +ℤ neg_ℤ x) (sym (pos-+ℤ-pos k n ∙ ap pos h))
    ∙ (ap (λ (x : ℤ). pos k +ℤ x) (neg_ℤ-+ℤ (pos k) (pos n)) ∙ (sym (+ℤ_assoc (pos k) (neg_ℤ (pos k)) (neg_ℤ (pos n))) ∙ (ap (λ (x : ℤ). x +ℤ neg_ℤ (pos n)) (+ℤ_invr (pos k)) ∙ +ℤ_idl (neg_ℤ (pos n)))))

-- ---- what a number says, by its kind
complete_end : (m n : ℕ) → kind_of m ≡ 1 → m % 2 ^ 16 ≡ n → complete_meaning m ≡ end_of_block n
complete_end m n k h = rw k (ap end_of_block h)

complete_zeros : (m n : ℕ) → kind_of m ≡ 2 → m % 2 ^ 16 ≡ n → complete_meaning m ≡ zero_run n
complete_zeros m n k h = rw k (ap zero_run h)

complete_value : (m z v : ℕ) → kind_of m ≡ 3 → m / 2 ^ 16 % 64 ≡ z → m % 1024 ≡ v → complete_meaning m ≡ coefficient z (pos v -ℤ pos 512)
complete_value m z v k h g = rw k (λ i. coefficient (h i) (pos (g i) -ℤ pos 512))

module _ (t s n z b : ℕ) (small : n ≤ 76) (few : z ≤ 17) where
  -- below 2 ^ 36, and of a kind
  pub saying_kind : (saying t s n z < 2 ^ 36) × (kind_of (saying t s n z + b * 2 ^ 36) ≡ 0 → ⊥)
  saying_kind = go (ltb t 7) (ltb t 9) (eqb s 1)
    where
      go : (x y w : Bool) → let v = choose x (2 ^ 33 + n) (choose y (2 * 2 ^ 33 + n) (3 * 2 ^ 33 + z * 2 ^ 16 + choose w (512 - n) (512 + n))) in (v < 2 ^ 36) × (kind_of (v + b * 2 ^ 36) ≡ 0 → ⊥)
      go true y w = (omega arith, λ h. omega (arith, h))
      go false true w = (omega arith, λ h. omega (arith, h))
      go false false true = (omega arith, λ h. omega (arith, h))
      go false false false = (omega arith, λ h. omega (arith, h))

  pub saying_meaning : complete_meaning (saying t s n z + b * 2 ^ 36) ≡ meaning t s n z
  unfolding meaning with_sign
  saying_meaning = go (ltb t 7) (ltb t 9) (eqb s 1)
    where
      value : (v : ℕ) → v < 1024 → complete_meaning (3 * 2 ^ 33 + z * 2 ^ 16 + v + b * 2 ^ 36) ≡ coefficient z (pos v -ℤ pos 512)
      value v h = complete_value (3 * 2 ^ 33 + z * 2 ^ 16 + v + b * 2 ^ 36) z v (omega arith) (omega arith) (omega arith)

      go : (x y w : Bool) → complete_meaning (choose x (2 ^ 33 + n) (choose y (2 * 2 ^ 33 + n) (3 * 2 ^ 33 + z * 2 ^ 16 + choose w (512 - n) (512 + n))) + b * 2 ^ 36) ≡ choose x (end_of_block n) (choose y (zero_run n) (coefficient z (cond w (neg_ℤ (pos n)) (pos n))))
      go true y w = complete_end (2 ^ 33 + n + b * 2 ^ 36) n (omega arith) (omega arith)
      go false true w = complete_zeros (2 * 2 ^ 33 + n + b * 2 ^ 36) n (omega arith) (omega arith)
      go false false true = value (512 - n) (omega arith) ∙ ap (coefficient z) (minus_from (512 - n) n 512 (omega arith))
      go false false false = value (512 + n) (omega arith) ∙ ap (coefficient z) (plus n)

-- ---- a token of at most three extra bits
module _ (t x : ℕ) (short : extra_bits t ≤ 3) where
  size_small : size_of (row_of t) x ≤ 76
  size_small = let l : (row_of t).size_bits ≤ 3 = omega (arith, short) in omega (arith, size_base_most t, mod-lt (x / 2 ^ (row_of t).zero_bits) (pow_pos (row_of t).size_bits), pow_mono l)

  zeros_few : zeros_of (row_of t) x ≤ 17
  zeros_few = let l : (row_of t).zero_bits ≤ 3 = omega (arith, short) in omega (arith, zero_base_most t, mod-lt x (pow_pos (row_of t).zero_bits), pow_mono l)

  -- with the bits of a code: all its bits, a kind, and what it says
  module _ (a : ℕ) where
    abbrev said : ℕ
    said = saying t (sign_of (row_of t) x) (size_of (row_of t) x) (zeros_of (row_of t) x)

    regrouped : complete_of t x + a * 2 ^ 36 ≡ said + (extra_bits t + a) * 2 ^ 36
    regrouped = omega arith

    facts : (said < 2 ^ 36) × (kind_of (said + (extra_bits t + a) * 2 ^ 36) ≡ 0 → ⊥)
    facts = saying_kind t (sign_of (row_of t) x) (size_of (row_of t) x) (zeros_of (row_of t) x) (extra_bits t + a) size_small zeros_few

    pub complete_bits : (complete_of t x + a * 2 ^ 36) / 2 ^ 36 ≡ extra_bits t + a
    complete_bits = omega (arith, regrouped, facts.0)

    pub complete_kind : kind_of (complete_of t x + a * 2 ^ 36) ≡ 0 → ⊥
    complete_kind h = facts.1 (sym (ap kind_of regrouped) ∙ h)

    pub complete_meaning_law : complete_meaning (complete_of t x + a * 2 ^ 36) ≡ meaning t (sign_of (row_of t) x) (size_of (row_of t) x) (zeros_of (row_of t) x)
    complete_meaning_law = ap complete_meaning regrouped ∙ saying_meaning t (sign_of (row_of t) x) (size_of (row_of t) x) (zeros_of (row_of t) x) (extra_bits t + a) size_small zeros_few

-- ---- the table
complete_place : (i : ℕ) → i < 256 → get_or token_complete i 0 ≡ complete_at i
unfolding token_complete
complete_place i h = tabulated_at complete_at 0 256 i h ∙ ap complete_at (zero-add i)

pub complete_length : length token_complete ≡ 256
unfolding token_complete
complete_length = tabulated_length complete_at 0 256

pub complete_at_law : (t x : ℕ) → t < 32 → extra_bits t ≤ 3 → x < 2 ^ extra_bits t → get_or token_complete (8 * t + x) 0 ≡ complete_of t x
complete_at_law t x h e l =
    let m : x < 8 = omega (arith, l, pow_mono e) in
    let q : (8 * t + x) / 8 ≡ t = omega arith in
    let r : (8 * t + x) % 8 ≡ x = omega arith in
    complete_place (8 * t + x) (omega arith) ∙ (rw (q, r, le-leb (extra_bits t) 3 e, lt-ltb x (2 ^ extra_bits t) l))

pub complete_small : (i : ℕ) → get_or token_complete i 0 < 2 ^ 60
complete_small i = go (ltb i 256) refl
  where
    each : (b : Bool) → (leb (extra_bits (i / 8)) 3 && ltb (i % 8) (2 ^ extra_bits (i / 8))) ≡ b → choose b (complete_of (i / 8) (i % 8)) 0 < 2 ^ 60
    each true b = let e = leb-true (extra_bits (i / 8)) 3 (and_both (leb (extra_bits (i / 8)) 3) (ltb (i % 8) (2 ^ extra_bits (i / 8))) b).0 in omega (arith, (facts (i / 8) (i % 8) e 0).0, e)
    each false b = omega arith

    go : (b : Bool) → ltb i 256 ≡ b → get_or token_complete i 0 < 2 ^ 60
    go true b = rw (complete_place i (ltb-true i 256 b)) (each _ refl)
    go false b = rw (get_or-eq_default token_complete 0 {n = i} (omega (arith, complete_length, ltb-false i 256 b))) (omega arith)
