-- What is kept of a packet: its first e bits, then zeros, to n bytes.
use Rattle.std.specs.Prelude.{ℕ, ◌-◌, ◌*◌, ◌^◌, min, List, Bool, eqb}
use Rattle.bitstream.specs.Bits.{bits, number}
use Rattle.bitstream.specs.Lists.{tabulated}

-- byte k of it: the packet's bits below the place e, then zeros
unfoldable pub kept_byte : List ℕ → ℕ → ℕ → ℕ
kept_byte p e k = number p (k * 8) (min 8 (e - k * 8)) * 2 ^ (8 - min 8 (e - k * 8))

unfoldable pub kept : List ℕ → ℕ → ℕ → List ℕ
kept p e n = tabulated (kept_byte p e) 0 n

-- whether every bit from the place e on is 0
unfoldable pub clear_from : List ℕ → ℕ → Bool
clear_from t e = eqb (number t e (bits t - e)) 0
