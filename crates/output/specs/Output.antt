-- Calls that write bytes into a lent slice: what they answer, and what they leave.
use Rattle.std.specs.Prelude.{ℕ, ◌+◌, List, ◌++◌, leb, length, take, drop}
use Rattle.bitstream.specs.Reading.{choose}
use Rattle.bitstream.specs.Numbers.{short_output}
use Rattle.output.specs.declared.Written.{Written}
use Rattle.output.specs.declared.Written.TheVariants.{Bytes, Refused}

-- bytes to be written, or the number of a refusal
pub data Output : Type 0 where
  gives : List ℕ → Output
  refused : ℕ → Output

-- "nothing written"; "bytes past the written ones stay"
abbrev pub left_by : Output → List ℕ → List ℕ
left_by (gives t) out = t ++ drop (length t) out
left_by (refused k) out = out

-- "the lent output is too short": number 14, the last test of every such call
abbrev pub within : ℕ → List ℕ → Output
within room t = choose (leb (length t) room) (gives t) (refused short_output)

-- "The writer answers how many bytes it wrote"; a refusal's place is 0
abbrev pub as_written : Output → Written
as_written (gives t) = Bytes (length t)
as_written (refused k) = Refused k 0

-- n bytes of a list from `at` on
abbrev pub part : List ℕ → ℕ → ℕ → List ℕ
part l at n = take n (drop at l)

-- a slice with the bytes t in it from place `at` on
unfoldable pub spliced : ℕ → List ℕ → List ℕ → List ℕ
spliced at t l = take at l ++ (t ++ drop (at + length t) l)
