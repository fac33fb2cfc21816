-- The bits of a packet. A packet is the list of its bytes.
use Rattle.std.specs.Prelude.{ℕ, zero, suc, ◌+◌, ◌-◌, ◌*◌, ◌/◌, ◌%◌, ◌^◌, List, length, get_or}

-- the longest part of a packet that is looked at, in bytes: every bit place in it fits 64 bits, and no reader gets so far
abbrev pub longest : ℕ
longest = 2 ^ 58

-- how many bits the packet has
abbrev pub bits : List ℕ → ℕ
bits p = length p * 8

-- "First bit is the MOST significant of byte 0." Past the end a bit is 0
unfoldable pub bit_at : List ℕ → ℕ → ℕ
bit_at p i = get_or p (i / 8) 0 / 2 ^ (7 - i % 8) % 2

-- the number whose binary digits are the n bits from place i, the first the most significant
unfoldable pub number : List ℕ → ℕ → ℕ → ℕ
number p i zero = 0
number p i (suc n) = number p i n * 2 + bit_at p (i + n)
