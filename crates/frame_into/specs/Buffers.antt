-- Three buffers, two of which have names.
use Rattle.std.specs.Prelude.{ℕ, List, [], ltb, get_or}
use Rattle.bitstream.specs.Reading.{choose}

-- the number of the buffer that is lent for a name
abbrev pub index : ℕ → ℕ
index k = choose (ltb k 3) k 1

-- the buffer of a name. Without references golden and previous may be anything: buffer 1 is lent (law `alone` of `shot`)
abbrev pub buffer_of : List (List ℕ) → ℕ → List ℕ
buffer_of planes k = get_or planes (choose (ltb k 3) k 1) []
