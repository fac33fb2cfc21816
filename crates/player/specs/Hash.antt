-- The hash of a frame, as tests/streams/hash.h has it: FNV-1a with 64 bits.
use Rattle.std.specs.Prelude.{ℕ, ◌*◌, ◌%◌, ◌^◌, List, [], ◌∷◌, bit_xor}

-- one byte more
unfoldable pub hash_byte : ℕ → ℕ → ℕ
hash_byte hash byte = (bit_xor hash byte * 1099511628211) % 2 ^ 64

-- the bytes in turn
unfoldable pub hash_from : ℕ → List ℕ → ℕ
hash_from hash [] = hash
hash_from hash (byte ∷ bytes) = hash_from (hash_byte hash byte) bytes

unfoldable pub hash_of : List ℕ → ℕ
hash_of = hash_from 14695981039346656037
