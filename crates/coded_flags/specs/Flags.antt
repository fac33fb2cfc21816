-- Which blocks of a frame of w by h macro blocks are coded: a flag, 1 or 0, for each block in coded order.
use Rattle.std.specs.Prelude.{ℕ, zero, suc, ◌+◌, ◌-◌, List, [], ◌∷◌, ◌++◌, eqb, length, get_or, take, drop, replicate}
use Rattle.bitstream.specs.Reading.{Parse, pure, choose, ◌>>=◌}
use Rattle.runs.specs.Runs.{bit_string}
use Rattle.runs.specs.declared.RunCode.TheVariants.{Long, Short}
use Rattle.geometry.specs.declared.PixelFormat.{PixelFormat}
use Rattle.geometry.specs.Sizes.{blocks_of, super_blocks_of}
use Rattle.geometry.specs.Frame.{super_block_of}

-- how many of a list are 1, and how many are the rest
unfoldable pub ones : List ℕ → ℕ
ones [] = 0
ones (b ∷ bs) = choose (eqb b 1) 1 0 + ones bs

abbrev pub rest : List ℕ → ℕ
rest bs = length bs - ones bs

-- how many blocks each of n super blocks has, from number k on; those of the whole frame
unfoldable pub sizes_from : PixelFormat → ℕ → ℕ → ℕ → ℕ → List ℕ
sizes_from f w h k zero = []
sizes_from f w h k (suc n) = length (super_block_of f w h k) ∷ sizes_from f w h (k + 1) n

abbrev pub super_sizes : PixelFormat → ℕ → ℕ → List ℕ
super_sizes f w h = sizes_from f w h 0 (super_blocks_of f w h)

-- which super blocks are partly coded, and which of the rest are fully coded
pub record SuperFlags : Type 0 where
  pub partly : List ℕ
  pub full : List ℕ

-- "long runs say which super blocks are partly coded, long runs which of the rest are fully coded"
unfoldable pub super_flags : ℕ → Parse SuperFlags
super_flags n = do
  partly ← bit_string Long n
  full ← bit_string Long (rest partly)
  pure (record { partly = partly; full = full })

-- how many blocks the partly coded super blocks have
unfoldable pub partly_blocks : List ℕ → List ℕ → ℕ
partly_blocks [] partly = 0
partly_blocks (n ∷ sizes) [] = 0
partly_blocks (n ∷ sizes) (b ∷ partly) = choose (eqb b 1) n 0 + partly_blocks sizes partly

-- super block after super block: a partly coded one has bits of its own, a block each; of the others all blocks are as their super block
unfoldable pub spread : (sizes partly full bits : List ℕ) → List ℕ
spread [] partly full bits = []
spread (n ∷ sizes) [] full bits = []
spread (n ∷ sizes) (b ∷ partly) full bits =
    choose (eqb b 1)
    (take n bits ++ spread sizes partly full (drop n bits))
    (replicate n (get_or full 0 0) ++ spread sizes partly (drop 1 full) bits)

-- "short runs the blocks of the partly coded"
unfoldable pub inter_flags : PixelFormat → ℕ → ℕ → Parse (List ℕ)
inter_flags f w h = do
  s ← super_flags (super_blocks_of f w h)
  bits ← bit_string Short (partly_blocks (super_sizes f w h) s.partly)
  pure (spread (super_sizes f w h) s.partly s.full bits)

-- "Intra: all coded."
unfoldable pub intra_flags : PixelFormat → ℕ → ℕ → List ℕ
intra_flags f w h = replicate (blocks_of f w h) 1
