-- A token by the entry of its code.
use Rattle.std.specs.Prelude.{ℕ, ◌+◌, ◌-◌, ◌/◌, ◌%◌, ◌^◌, ◌≡◌, List, ◌⊎◌, eqb, length, get_or}
use Rattle.bitstream.specs.Reading.{Outcome, got, choose}
use Rattle.huffman.specs.Code.{tree_of}
use Rattle.code_walk.specs.Walk.{entry_in}
use Rattle.code_lookup.specs.Lookup.{lookup_of}
use Rattle.token.specs.Token.{Meaning, row_of, meaning}
use Rattle.token.specs.Answer.{token_values, token_complete, kind_of, complete_meaning, extra_bits, sign_of, size_of, zeros_of}

-- a lookup for a tree: each entry is 0, which says nothing, or the tree's: the value of a token, or a complete one, with the bits of its code
pub record Lookup (nodes lookup : List ℕ) : Type 0 where
  pub size : length lookup ≡ 256
  pub each : (i : ℕ) → (◌≡◌ {A = ℕ} (get_or lookup i 0) 0) ⊎ (get_or lookup i 0 ≡ get_or (lookup_of nodes token_values token_complete) i 0)

-- the entry of the code that stands in the window w from its bit k on: what the lookup has for eight bits, and where that is 0 the tree's
abbrev pub looked_up : List ℕ → ℕ → ℕ → ℕ
looked_up lookup w k = get_or lookup (w / 2 ^ (56 - k) % 256) 0

abbrev pub entry_at : List ℕ → List ℕ → ℕ → ℕ → ℕ
entry_at nodes lookup w k = choose (eqb (looked_up lookup w k) 0) (entry_in (tree_of nodes) token_values w k 0) (looked_up lookup w k)

-- the token that an entry names, and what it means by the extra bits in the window; an entry's upper part is how many bits it has with its code
abbrev pub row_says : ℕ → ℕ → Meaning
row_says t x = meaning t (sign_of (row_of t) x) (size_of (row_of t) x) (zeros_of (row_of t) x)

abbrev pub named : ℕ → ℕ → ℕ → Meaning
named entry window at = row_says (entry / 2 ^ 28 % 32) (window / 2 / 2 ^ (63 - at % 8 - entry / 2 ^ 36) % 2 ^ extra_bits (entry / 2 ^ 28 % 32))

abbrev pub token_by : ℕ → ℕ → ℕ → Outcome Meaning
token_by entry window at = got (named entry window at) (at + entry / 2 ^ 36)

-- the same, and where an entry is complete what it says itself
abbrev pub token_of : ℕ → ℕ → ℕ → Outcome Meaning
token_of entry window at = got (choose (eqb (kind_of entry) 0) (named entry window at) (complete_meaning entry)) (at + entry / 2 ^ 36)
