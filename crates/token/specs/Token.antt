-- The 32 tokens of coefficients: the extra bits of each, and what it means.
use Rattle.std.specs.Prelude.{ℕ, ◌+◌, List, [], ◌∷◌, ltb, get_or, ℤ}
use Rattle.numeric.specs.Sign.{with_sign}
use Rattle.bitstream.specs.Reading.{Parse, pure, field, choose, ◌>>=◌, ◌>>◌}

-- What a token means for the block that it is read for
pub data Meaning : Type 0 where
  end_of_block : ℕ → Meaning  -- an end-of-block run: so many blocks end, 0 stands for all unfinished ones
  zero_run : ℕ → Meaning  -- so many zeros
  coefficient : ℕ → ℤ → Meaning  -- so many zeros, and then the value

-- Each token has a sign, a size and a count of zeros; each of them is a base plus an extra field of so many bits
pub record Row : Type 0 where
  pub sign_base : ℕ
  pub sign_bits : ℕ
  pub size_base : ℕ
  pub size_bits : ℕ
  pub zero_base : ℕ
  pub zero_bits : ℕ

-- an end of blocks or a run of zeros: a size alone
abbrev pub counted : ℕ → ℕ → Row
counted base bits = record { sign_base = 0; sign_bits = 0; size_base = base; size_bits = bits; zero_base = 0; zero_bits = 0 }

-- a value with no extra bit: its sign, 1 for minus, and its size
abbrev pub fixed : ℕ → ℕ → Row
fixed sign size = record { sign_base = sign; sign_bits = 0; size_base = size; size_bits = 0; zero_base = 0; zero_bits = 0 }

-- a sign bit, a size, and zeros before the value
abbrev pub signed : ℕ → ℕ → ℕ → ℕ → Row
signed size bits zeros zero_bits = record { sign_base = 0; sign_bits = 1; size_base = size; size_bits = bits; zero_base = zeros; zero_bits = zero_bits }

abbrev pub rows : List Row
rows =
    -- "0–2 end 1, 2, 3 blocks; 3–6 end 4, 8, 16, 0 plus 2, 3, 4, 12 bits"
    counted 1 0 ∷ counted 2 0 ∷ counted 3 0 ∷ counted 4 2 ∷ counted 8 3 ∷ counted 16 4 ∷ counted 0 12 ∷
    -- "7, 8 zeros, 1 plus 3 or 6 bits"
    counted 1 3 ∷ counted 1 6 ∷
    -- "9–12: 1, −1, 2, −2"
    fixed 0 1 ∷ fixed 1 1 ∷ fixed 0 2 ∷ fixed 1 2 ∷
    -- "13–16: sign, 3 to 6"
    signed 3 0 0 0 ∷ signed 4 0 0 0 ∷ signed 5 0 0 0 ∷ signed 6 0 0 0 ∷
    -- "17–22: sign, then 7, 9, 13, 21, 37, 69 plus 1, 2, 3, 4, 5, 9 bits"
    signed 7 1 0 0 ∷ signed 9 2 0 0 ∷ signed 13 3 0 0 ∷ signed 21 4 0 0 ∷ signed 37 5 0 0 ∷ signed 69 9 0 0 ∷
    -- "23–27: sign, 1 to 5 zeros, then 1"
    signed 1 0 1 0 ∷ signed 1 0 2 0 ∷ signed 1 0 3 0 ∷ signed 1 0 4 0 ∷ signed 1 0 5 0 ∷
    -- "28, 29: sign, 6 or 10 plus 2 or 3 bits zeros, then 1"
    signed 1 0 6 2 ∷ signed 1 0 10 3 ∷
    -- "30: sign, 2 plus 1 bit, after one zero; 31: sign, 2 plus 1 bit, after 2 plus 1 bit zeros"
    signed 2 1 1 0 ∷ signed 2 1 2 1 ∷ []

-- the row of the token t
unfoldable pub row_of : ℕ → Row
row_of t = get_or rows t (counted 0 0)

-- what the token t means, by its sign, its size and its zeros: tokens 0 to 6 end blocks, 7 and 8 are zeros alone
unfoldable pub meaning : ℕ → ℕ → ℕ → ℕ → Meaning
meaning t sign size zeros = choose (ltb t 7) (end_of_block size) (choose (ltb t 9) (zero_run size) (coefficient zeros (with_sign sign size)))

-- the extra bits of the token t: sign, size, zeros
unfoldable pub extra : ℕ → Parse Meaning
extra t = do
  s ← field (row_of t).sign_bits
  n ← field (row_of t).size_bits
  z ← field (row_of t).zero_bits
  pure (meaning t ((row_of t).sign_base + s) ((row_of t).size_base + n) ((row_of t).zero_base + z))
