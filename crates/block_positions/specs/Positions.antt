-- The positions of blocks: a list with the zig-zag position of each that comes next, 64 where the block is finished.
use Rattle.std.specs.Prelude.{ℕ, ◌+◌, List, [], ◌∷◌, eqb, ltb}
use Rattle.bitstream.specs.Reading.{choose}

-- how many blocks are unfinished
unfoldable pub unfinished : List ℕ → ℕ
unfinished [] = 0
unfinished (p ∷ ps) = choose (ltb p 64) 1 0 + unfinished ps

-- how many blocks an end-of-block run of n ends, the present one included. "A 12-bit end-of-block run of 0 means all unfinished blocks"
unfoldable pub run_of : List ℕ → ℕ → ℕ
run_of positions n = choose (eqb n 0) (unfinished positions) n
