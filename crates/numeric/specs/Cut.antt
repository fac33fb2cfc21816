-- "cut to 16 bits": keep the low 16 bits, read as two's complement.
use Rattle.std.specs.Prelude.{ℕ, ◌-◌, ◌%◌, ℤ, pos, negsuc, ltb}
use mir.Val.{sel}

-- "keep the low 16 bits": z modulo 65536, a number from 0 to 65535
unfoldable pub mod16 : ℤ → ℕ
mod16 (pos n) = n % 65536
mod16 (negsuc n) = 65535 - n % 65536

-- "read as two's complement": a number m from 0 to 65535 is m below 32768, and m - 65536 from there on
unfoldable pub read16 : ℕ → ℤ
read16 m = sel (ltb m 32768) (pos m) (negsuc (65535 - m))

-- "cut to 16 bits"
unfoldable pub cut : ℤ → ℤ
cut z = read16 (mod16 z)
