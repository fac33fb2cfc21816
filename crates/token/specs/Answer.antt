-- What the code answers, as outcomes of the reading algebra.
use Rattle.std.specs.Prelude.{ℕ, ◌+◌, ◌-◌, ◌*◌, ◌/◌, ◌%◌, ◌^◌, ◌≤◌, List, ◌&&◌, eqb, ltb, leb, pos, ◌-ℤ◌}
use Rattle.bitstream.specs.Lists.{tabulated}
use Rattle.bitstream.specs.Reading.{Outcome, got, refused, choose}
use Rattle.token.specs.Token.{Meaning, end_of_block, zero_run, coefficient, Row, row_of}
use Rattle.token.specs.declared.Token.{Token}
use Rattle.token.specs.declared.Token.TheVariants.{EndOfBlock, ZeroRun, Coefficient, Refused}
use Rattle.token.specs.declared.Extra.{Extra}

-- what a token means and the place behind it, or the refusal
abbrev pub as_token : Outcome Meaning → Token
as_token (got (end_of_block n) e) = EndOfBlock n e
as_token (got (zero_run n) e) = ZeroRun n e
as_token (got (coefficient n v) e) = Coefficient n v e
as_token (refused k e) = Refused k e

-- a row of the code's table: its six numbers in the same order
abbrev pub as_extra : Row → Extra
as_extra r = record { 0 = r.sign_base; 1 = r.sign_bits; 2 = r.size_base; 3 = r.size_bits; 4 = r.zero_base; 5 = r.zero_bits }

-- a row as one number, by hexadecimal digits: the size's base has two of them
abbrev pub packed : Row → ℕ
packed r = ((((r.sign_base * 16 + r.sign_bits) * 256 + r.size_base) * 16 + r.size_bits) * 16 + r.zero_base) * 16 + r.zero_bits

-- the six numbers of a row, out of the one
abbrev pub unpacked : ℕ → Extra
unpacked n = record { 0 = n / 16777216; 1 = n / 1048576 % 16; 2 = n / 4096 % 256; 3 = n / 256 % 16; 4 = n / 16 % 16; 5 = n % 16 }

-- how many extra bits the token t has
abbrev pub extra_bits : ℕ → ℕ
extra_bits t = (row_of t).sign_bits + (row_of t).size_bits + (row_of t).zero_bits

-- the value of the token t: its row, its number and its extra bits as one number; the values of all tokens
abbrev pub value_of : ℕ → ℕ
value_of t = packed (row_of t) + t * 2 ^ 28 + extra_bits t * 2 ^ 36

unfoldable pub token_values : List ℕ
token_values = tabulated value_of 0 32

-- sign, size and zeros of a row, where all its extra bits are read as one number x
abbrev pub sign_of : Row → ℕ → ℕ
sign_of r x = r.sign_base + x / 2 ^ r.zero_bits / 2 ^ r.size_bits

abbrev pub size_of : Row → ℕ → ℕ
size_of r x = r.size_base + x / 2 ^ r.zero_bits % 2 ^ r.size_bits

abbrev pub zeros_of : Row → ℕ → ℕ
zeros_of r x = r.zero_base + x % 2 ^ r.zero_bits

-- what the token t means where its extra bits are the number x, as one number: times 2 ^ 33 the kind, 1 an end of blocks, 2 a run of zeros, 3 a value; and a run's length, or the zeros times 2 ^ 16 and 512 plus the value
abbrev pub biased : ℕ → ℕ → ℕ
biased sign size = choose (eqb sign 1) (512 - size) (512 + size)

abbrev pub saying : ℕ → ℕ → ℕ → ℕ → ℕ
saying t sign size zeros = choose (ltb t 7) (2 ^ 33 + size) (choose (ltb t 9) (2 * 2 ^ 33 + size) (3 * 2 ^ 33 + zeros * 2 ^ 16 + biased sign size))

-- the complete values: for each token of at most three extra bits, and for each number that those can be, this number and how many they are
abbrev pub complete_of : ℕ → ℕ → ℕ
complete_of t x = saying t (sign_of (row_of t) x) (size_of (row_of t) x) (zeros_of (row_of t) x) + extra_bits t * 2 ^ 36

abbrev pub complete_at : ℕ → ℕ
complete_at i = choose (leb (extra_bits (i / 8)) 3 && ltb (i % 8) (2 ^ extra_bits (i / 8))) (complete_of (i / 8) (i % 8)) 0

unfoldable pub token_complete : List ℕ
token_complete = tabulated complete_at 0 256

-- the kind of such a number, and the meaning that it holds, whatever stands from 2 ^ 36 on
abbrev pub kind_of : ℕ → ℕ
kind_of n = n / 2 ^ 33 % 8

abbrev pub complete_meaning : ℕ → Meaning
complete_meaning n = choose (eqb (kind_of n) 3) (coefficient (n / 2 ^ 16 % 64) (pos (n % 1024) -ℤ pos 512)) (choose (eqb (kind_of n) 1) (end_of_block (n % 2 ^ 16)) (zero_run (n % 2 ^ 16)))

-- how large the numbers of a row are
pub record Small (r : Extra) : Type 0 where
  pub sign : r.0 ≤ 1
  pub size : r.2 ≤ 69
  pub zeros : r.4 ≤ 10
  pub bits : r.1 + r.3 + r.5 ≤ 12
