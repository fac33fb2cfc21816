-- How the lists lie in lent slices, and what a frame's reader has made sure of.
use Rattle.std.specs.Prelude.{◌≡◌, true, List, map, ℕ, ◌+◌, ◌*◌, ◌-◌, ◌≤◌, ◌<◌, ℤ, pos, length, get_or, take, drop, replicate}
use Rattle.geometry.specs.declared.PixelFormat.{PixelFormat}
use Rattle.geometry.specs.declared.Block.{Block}
use Rattle.geometry.specs.Sizes.{across, blocks_of}
use Rattle.geometry.specs.Sample.{sample_at}
use Rattle.block_record.specs.Record.{InRange, uncoded}
use Rattle.block_record.specs.Packed.{unpacked}
use Rattle.ways.specs.Loops.{◌∈◌}
use Rattle.ways.specs.Corner.{block_at}
use Rattle.reconstruct.specs.Picture.{Blocks, Matrices}

-- packed records, and the first `count` of the raster numbers
abbrev pub blocks_in : (records coded : List ℕ) (count : ℕ) (coefs : List ℤ) (lasts : List ℕ) → Blocks
blocks_in records coded count coefs lasts = record { records = map unpacked records; coded = take count coded; coefs = coefs; lasts = lasts }

-- 64 numbers for each type, in it for each plane, in it for each qi
abbrev pub matrix_place : (type plane index : ℕ) → ℕ
matrix_place type plane index = ((type * 3 + plane) * 3 + index) * 64

unfoldable pub matrix_in : List ℕ → Matrices
matrix_in ms type plane index = take 64 (drop (matrix_place type plane index) ms)

-- the coded blocks, each once, with their vectors and qi in range
pub record CodedBlocks (f : PixelFormat) (w h : ℕ) (bs : Blocks) : Type 0 where
  pub in_frame : (n : ℕ) → n ∈ bs.coded → n < blocks_of f w h
  pub are_coded : (n : ℕ) → n ∈ bs.coded → (get_or bs.records n uncoded).coded ≡ true
  pub in_range : (n : ℕ) → n ∈ bs.coded → InRange (get_or bs.records n uncoded)
  pub every : (n : ℕ) → n < blocks_of f w h → (get_or bs.records n uncoded).coded ≡ true → n ∈ bs.coded
  pub once : (j k : ℕ) → j < length bs.coded → k < length bs.coded → get_or bs.coded j 0 ≡ get_or bs.coded k 0 → j ≡ k

-- the slices are long enough, and hold such blocks
pub record Lent (f : PixelFormat) (w h : ℕ) (records coded : List ℕ) (count : ℕ) (coefs : List ℤ) (lasts matrices : List ℕ) : Type 0 where
  pub records_long : length records ≡ blocks_of f w h
  pub coded_long : count ≤ length coded
  pub coefs_long : count * 64 ≤ length coefs
  pub lasts_long : count ≤ length lasts
  pub matrices_long : length matrices ≡ 1152
  pub blocks : CodedBlocks f w h (blocks_in records coded count coefs lasts)

-- behind what is read of a frame the slices hold 0
pub record ZerosBehind (coded : List ℕ) (count : ℕ) (coefs : List ℤ) (lasts : List ℕ) : Type 0 where
  pub coded_behind : drop count coded ≡ replicate (length coded - count) 0
  pub coefs_behind : drop (count * 64) coefs ≡ replicate (length coefs - count * 64) (pos 0)
  pub lasts_behind : drop count lasts ≡ replicate (length lasts - count) 0

-- all numbers of a list are below m
abbrev pub Below : List ℕ → ℕ → Type 0
Below ns m = (n : ℕ) → n ∈ ns → n < m

-- block b written over s
abbrev pub put_block : PixelFormat → ℕ → ℕ → (Block → ℕ → ℕ → ℕ) → Block → List ℕ → List ℕ
put_block f w h sample b s = block_at (sample b) (sample_at f w h b 0 0) (8 * across f w b.plane) s
