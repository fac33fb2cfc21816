-- How tokens give the coefficients of the coded blocks. A block is named by its rank: its index among the coded blocks in coded order.
use Rattle.std.specs.Prelude.{ℕ, zero, suc, ◌+◌, ◌-◌, ◌*◌, List, [], ◌∷◌, get_or, replicate, ℤ, pos}
use Rattle.bitstream.specs.Reading.{Parse, pure, bind, ◌>>=◌}
use Rattle.huffman.specs.Tree.{Tree, leaf}
use Rattle.block_visits.specs.Visits.{TokenState, state_of}
use Rattle.token_visits.specs.Visits.{pass}
use Rattle.table_choices.specs.Choices.{group, Choices, choices_of, choices}

-- "table is 16·group + choice"
unfoldable pub table : List Tree → ℕ → ℕ → Tree
table trees k choice = get_or trees (16 * group k + choice) (leaf 0)

-- the luma blocks and then the chroma blocks at the position k, each by their table
unfoldable pub at_position : List Tree → List ℕ → List ℕ → ℕ → Choices → TokenState → Parse TokenState
at_position trees lumas chromas k ch s = do
  s₁ ← pass (table trees k ch.luma) k lumas s
  pass (table trees k ch.chroma) k chromas s₁

-- n positions from k on
unfoldable pub positions_from : List Tree → List ℕ → List ℕ → ℕ → ℕ → Choices → TokenState → Parse TokenState
positions_from trees lumas chromas zero k ch s = pure s
positions_from trees lumas chromas (suc n) k ch s = bind (choices k ch) (λ ch. bind (at_position trees lumas chromas k ch s) (positions_from trees lumas chromas n (k + 1) ch))

-- n ranks from b on
unfoldable pub ranks : ℕ → ℕ → List ℕ
ranks b zero = []
ranks b (suc n) = b ∷ ranks (b + 1) n

-- at first every block stands at position 0 and all its coefficients are 0
unfoldable pub start : ℕ → TokenState
start count = state_of (replicate count 0) (replicate count 0) (replicate (64 * count) (pos 0)) 0 0

-- what the tokens of a frame give
pub record Tokens : Type 0 where
  pub coefs : List ℤ  -- 64 for each coded block, by rank, in zig-zag order
  pub lasts : List ℕ  -- by rank: the position of the last visit, "an ending one included"
  pub tokens : ℕ  -- how many tokens were read

abbrev pub tokens_of : TokenState → Tokens
tokens_of s = record { coefs = s.coefs; lasts = s.lasts; tokens = s.tokens }

-- "zig-zag positions 0 to 63": all tokens of a frame whose coded blocks are `count`, the first `luma` of them luma's. "a run left at the end is no fault"
unfoldable pub read_tokens : List Tree → ℕ → ℕ → Parse Tokens
read_tokens trees luma count = do
  s ← positions_from trees (ranks 0 luma) (ranks luma (count - luma)) 64 0 (choices_of 0 0) (start count)
  pure (tokens_of s)
