-- Entries: the token that the bits of a code tell, and how many they are, found by a walk over the nodes.
use Rattle.std.specs.Prelude.{ℕ, ◌+◌, ◌-◌, ◌*◌, ◌/◌, ◌%◌, ◌^◌, ◌<◌, ◌≡◌, List, eqb, length, get_or}
use Rattle.bitstream.specs.Reading.{choose}
use Rattle.huffman.specs.Tree.{Tree, leaf, fork}

-- so many values, one or eight for each token
pub record Values (n : ℕ) (values : List ℕ) : Type 0 where
  pub size : length values ≡ n
  pub small : (t : ℕ) → get_or values t 0 < 2 ^ 60

-- the node after the bit b at the node n, a fork whose entry is v
abbrev pub branch : ℕ → ℕ → ℕ → ℕ
branch n v b = choose (eqb b 0) (n + 1) (v - 128)

-- the entry of the code that stands in the window w from its bit k on, below a tree to which n of its bits lead: the value of its token and all its bits, times 2 ^ 36
unfoldable pub entry_in : Tree → List ℕ → ℕ → ℕ → ℕ → ℕ
entry_in (leaf t) values w k n = get_or values t 0 + n * 2 ^ 36
entry_in (fork l r) values w k n = choose (eqb (w / 2 ^ (63 - (k + n)) % 2) 0) (entry_in l values w k (n + 1)) (entry_in r values w k (n + 1))
