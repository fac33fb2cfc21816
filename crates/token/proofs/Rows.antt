-- The table of rows: what holds of each row, found by one test over the table. Assumes nothing.
use Prim.Native.Nat.{ℕ, zero, suc, ◌+◌, ◌*◌, ◌/◌, ◌%◌, ◌^◌, ◌≤◌, ◌<◌}
use native.Mathlib.Omega.{arith}
use native.Mathlib.Nat.{zero-add}
use mathlib.Core.Path.{◌≡◌, refl, ap, ◌∙◌}
use mathlib.Core.List.{List, [], ◌∷◌}
use mathlib.Core.Bool.{Bool, true, false}
use lib.Dec.{T, leb, ltb, leb→le}
use lib.ListN.{length, get_or, get_or-eq_default}
use borrow.Author.Tests.{ltb-true, ltb-false}
use Rattle.bitstream.proofs.Lists.{tabulated_length, tabulated_at}
use Rattle.bitstream.proofs.Table.{both, both_left, both_right}
use Rattle.token.specs.Token.{Row, counted, rows, row_of}
use Rattle.token.specs.Answer.{as_extra, packed, unpacked, Small, extra_bits, value_of, token_values}

-- the test passes at each row and at the row that stands for a number past the table
abbrev pub every : (Row → Bool) → List Row → Bool
every f [] = f (counted 0 0)
every f (x ∷ xs) = both (f x) (every f xs)

pub every_at : (f : Row → Bool) (xs : List Row) → T (every f xs) → (t : ℕ) → T (f (get_or xs t (counted 0 0)))
every_at f [] h t = h
every_at f (x ∷ xs) h zero = both_left (f x) (every f xs) h
every_at f (x ∷ xs) h (suc t) = every_at f xs (both_right (f x) (every f xs) h) t

digits : (a b c d e f n : ℕ) → b < 16 → c < 256 → d < 16 → e < 16 → f < 16 → n ≡ ((((a * 16 + b) * 256 + c) * 16 + d) * 16 + e) * 16 + f
    → (n / 16777216 ≡ a) × (n / 1048576 % 16 ≡ b) × (n / 4096 % 256 ≡ c) × (n / 256 % 16 ≡ d) × (n / 16 % 16 ≡ e) × (n % 16 ≡ f)
digits a b c d e f n hb hc hd he hf h = (omega arith, omega arith, omega arith, omega arith, omega arith, omega arith)

module _ (t : ℕ) where
  pub sign_base_most : (row_of t).sign_base ≤ 1
  unfolding row_of
  sign_base_most = leb→le _ _ (every_at (λ r. leb r.sign_base 1) rows tt t)

  pub size_base_most : (row_of t).size_base ≤ 69
  unfolding row_of
  size_base_most = leb→le _ _ (every_at (λ r. leb r.size_base 69) rows tt t)

  pub zero_base_most : (row_of t).zero_base ≤ 10
  unfolding row_of
  zero_base_most = leb→le _ _ (every_at (λ r. leb r.zero_base 10) rows tt t)

  -- all extra bits of a token
  pub bits_most : (row_of t).sign_bits + (row_of t).size_bits + (row_of t).zero_bits ≤ 12
  unfolding row_of
  bits_most = leb→le _ _ (every_at (λ r. leb (r.sign_bits + r.size_bits + r.zero_bits) 12) rows tt t)

  pub extra_small : Small (as_extra (row_of t))
  extra_small = record { sign = sign_base_most; size = size_base_most; zeros = zero_base_most; bits = bits_most }

  -- the six numbers of a row, taken out of the one
  pub row_unpacked : (n : ℕ) → n ≡ packed (row_of t)
      → unpacked n ≡ as_extra (row_of t)
  row_unpacked n h =
      let r = row_of t in
      let d = digits r.sign_base r.sign_bits r.size_base r.size_bits r.zero_base r.zero_bits n (omega (arith, bits_most)) (omega (arith, size_base_most)) (omega (arith, bits_most)) (omega (arith, zero_base_most)) (omega (arith, bits_most)) h in
      λ i. record { 0 = d.0 i; 1 = d.1 i; 2 = d.2 i; 3 = d.3 i; 4 = d.4 i; 5 = d.5 i }

  -- a row is below 2 ^ 28, and says how many extra bits there are
  pub packed_lt : packed (row_of t) < 2 ^ 28
  packed_lt = omega (arith, sign_base_most, size_base_most, zero_base_most, bits_most)

  pub bits_of_row : (n : ℕ) → n ≡ packed (row_of t) → n / 1048576 % 16 + n / 256 % 16 + n % 16 ≡ extra_bits t
  bits_of_row n h = let e = row_unpacked n h in λ i. (e i).1 + (e i).3 + (e i).5

-- ---- the values of tokens
pub value_at_law : (t : ℕ) → t < 32 → get_or token_values t 0 ≡ value_of t
unfolding token_values
value_at_law t h = tabulated_at value_of 0 32 t h ∙ ap value_of (zero-add t)

pub values_length : length token_values ≡ 32
unfolding token_values
values_length = tabulated_length value_of 0 32

pub value_small : (t : ℕ) → get_or token_values t 0 < 2 ^ 60
value_small t = go (ltb t 32) refl
  where
    go : (b : Bool) → ltb t 32 ≡ b → get_or token_values t 0 < 2 ^ 60
    go true b = let h = ltb-true t 32 b in rw (value_at_law t h) (omega (arith, h, packed_lt t, bits_most t))
    go false b = rw (get_or-eq_default token_values 0 {n = t} (omega (arith, values_length, ltb-false t 32 b))) (omega arith)
