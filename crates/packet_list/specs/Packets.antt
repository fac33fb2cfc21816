-- Packets that are joined together, the list of their lengths, and the list for their answers.
use Rattle.std.specs.Prelude.{ℕ, ◌+◌, List, [], ◌∷◌, take, drop}

-- "a lent list of packet lengths and one buffer of packets joined together". "Bytes after the last packet are ignored"
unfoldable pub packets_in : (lengths joined : List ℕ) → List (List ℕ)
packets_in [] joined = []
packets_in (n ∷ ns) joined = take n joined ∷ packets_in ns (drop n joined)

-- where the last packet ends, over whole numbers
unfoldable pub total : List ℕ → ℕ
total [] = 0
total (n ∷ ns) = n + total ns

-- "Packet answers go to a lent list": 8 numbers for each packet, those of the frame call
abbrev pub answer_size : ℕ
answer_size = 8
