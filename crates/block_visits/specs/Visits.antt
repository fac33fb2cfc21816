-- What a token does for the block that it is read for, and the visit of a block. A block is named by its rank: its index among the coded blocks in coded order.
use Rattle.std.specs.Prelude.{ℕ, ◌+◌, ◌-◌, ◌*◌, List, eqb, ltb, leb, get_or, set, ℤ}
use Rattle.bitstream.specs.Reading.{Parse, pure, pick, here, guard, ◌>>=◌, ◌>>◌}
use Rattle.bitstream.specs.Numbers.{past_block}
use Rattle.huffman.specs.Tree.{Tree}
use Rattle.token.specs.Token.{Meaning, end_of_block, zero_run, coefficient}
use Rattle.token_reader.specs.Reader.{token}
use Rattle.block_positions.specs.Positions.{run_of}

pub record TokenState : Type 0 where
  pub positions : List ℕ  -- by rank: the zig-zag position that comes next, 64 where the block is finished
  pub lasts : List ℕ  -- by rank: the position of the last visit
  pub coefs : List ℤ  -- 64 for each block, in zig-zag order: coefficient j of block b is at 64 · b + j
  pub run : ℕ  -- how many blocks the present end-of-block run still ends
  pub tokens : ℕ  -- how many tokens were read

abbrev pub state_of : List ℕ → List ℕ → List ℤ → ℕ → ℕ → TokenState
state_of ps ls cs run tokens = record { positions = ps; lasts = ls; coefs = cs; run = run; tokens = tokens }

-- what a token, whose code stands at the place at, does for the block b, visited at the position k. Number 13: "a token moves its block past position 64"
unfoldable pub act : ℕ → ℕ → ℕ → Meaning → TokenState → Parse TokenState
act k b at (end_of_block n) s = pure (state_of (set s.positions b 64) (set s.lasts b k) s.coefs (run_of s.positions n - 1) (s.tokens + 1))
act k b at (zero_run n) s = do
  guard (leb (k + n) 64) past_block at
  pure (state_of (set s.positions b (k + n)) (set s.lasts b k) s.coefs s.run (s.tokens + 1))
act k b at (coefficient n v) s = do
  guard (leb (k + n + 1) 64) past_block at
  pure (state_of (set s.positions b (k + n + 1)) (set s.lasts b k) (set s.coefs (64 * b + (k + n)) v) s.run (s.tokens + 1))

-- a token is read for the block b at the position k
unfoldable pub read_for : Tree → ℕ → ℕ → TokenState → Parse TokenState
read_for tree k b s = do
  at ← here
  m ← token tree
  act k b at m s

-- "At each position the coded blocks there are visited": the block b at the position k. Nothing where it is elsewhere; its end where a run goes on; and else a token
unfoldable pub visit : Tree → ℕ → ℕ → TokenState → Parse TokenState
visit tree k b s =
    pick (eqb (get_or s.positions b 0) k)
    (pick (ltb 0 s.run) (pure (state_of (set s.positions b 64) (set s.lasts b k) s.coefs (s.run - 1) s.tokens)) (read_for tree k b s))
    (pure s)
