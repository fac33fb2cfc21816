-- What the code answers and leaves, as outcomes of the reading algebra.
use Rattle.std.specs.Prelude.{ℕ, ◌+◌, ◌*◌, ◌≡◌, List, ◌++◌, ◌⊎◌, take, drop}
use Rattle.bitstream.specs.Reading.{Outcome, got, refused}
use Rattle.bitstream.specs.Numbers.{packet_ends, bad_setup}
use Rattle.huffman.specs.Tree.{Tree, size, flat, nodes_of}

-- the table after a tree was read into it: a refusal leaves it as it was
abbrev pub nodes_after : List ℕ → Outcome Tree → List ℕ
nodes_after old (got t e) = nodes_of t
nodes_after old (refused k e) = old

-- what the answer r says of a part of a tree: 4 times the place behind it; or 4 times the place at fault, and 1 for number 4 or 2 for number 7
abbrev pub Told : ℕ → Outcome Tree → Type 0
Told r (got t e) = r ≡ 4 * e
Told r (refused k e) = ((r ≡ 4 * e + 1) × (k ≡ packet_ends)) ⊎ ((r ≡ 4 * e + 2) × (k ≡ bad_setup))

-- its nodes stand at base, and all else is as it was; after a refusal the nodes are open, and no caller looks at them
abbrev pub Stored : ℕ → List ℕ → List ℕ → Outcome Tree → Type 0
Stored base old new (got t e) = new ≡ take base old ++ flat base t ++ drop (base + size t) old
Stored base old new (refused k e) = Unit {0}
