-- "coded and uncoded blocks by plane, macro blocks by mode (inter frames only)": what one frame adds to a census.
use Rattle.std.specs.Prelude.{ℕ, suc, ◌+◌, ◌-◌, ◌≡◌, List, [], ◌∷◌, Bool, ◌&&◌, ◌⊎◌, eqb, leb, ltb, replicate}
use Rattle.bitstream.specs.Reading.{choose}
use Rattle.bitstream.specs.Lists.{tabulated}
use Rattle.geometry.specs.declared.PixelFormat.{PixelFormat}
use Rattle.geometry.specs.Sizes.{plane_blocks, blocks_before}
use Rattle.frame_header.specs.declared.Kind.{Kind}
use Rattle.frame_header.specs.declared.Kind.TheVariants.{Intra, Inter, Repeat}
use Rattle.counting.specs.declared.Counts.{Counts}

-- how many numbers of a list are such
unfoldable pub count : (ℕ → Bool) → List ℕ → ℕ
count such [] = 0
count such (n ∷ l) = choose (such n) 1 0 + count such l

-- the sum of a list
unfoldable pub sum : List ℕ → ℕ
sum [] = 0
sum (n ∷ l) = n + sum l

-- how many lie from low on and below high
abbrev pub count_within : (low high : ℕ) → List ℕ → ℕ
count_within low high l = count (λ n. leb low n && ltb n high) l

module _ (f : PixelFormat) (w h : ℕ) where
  -- "coded .. blocks by plane": of the raster numbers of the coded blocks, those of plane p
  abbrev pub coded_in : (coded : List ℕ) → ℕ → ℕ
  coded_in coded p = count_within (blocks_before f w h p) (blocks_before f w h (suc p)) coded

  -- ".. and uncoded": the plane's other blocks
  abbrev pub uncoded_in : (coded : List ℕ) → ℕ → ℕ
  uncoded_in coded p = plane_blocks f w h p - coded_in coded p

-- "macro blocks by mode": how often mode m stands among the modes
abbrev pub mode_count : (modes : List ℕ) → ℕ → ℕ
mode_count modes m = count (λ n. eqb n m) modes

abbrev pub mode_counts : List ℕ → List ℕ
mode_counts modes = tabulated (mode_count modes) 0 8

-- a frame whose blocks are counted: an intra or an inter frame
abbrev pub Codes : Kind → Type 0
Codes kind = (kind ≡ Intra) ⊎ (kind ≡ Inter)

-- nothing counted
abbrev pub no_counts : Counts
no_counts = record { coded = replicate 3 0; uncoded = replicate 3 0; modes = replicate 8 0 }

module _ (f : PixelFormat) (w h : ℕ) where
  -- the blocks by plane, beside numbers for the modes
  abbrev pub block_counts : (coded numbers : List ℕ) → Counts
  block_counts coded numbers = record { coded = tabulated (coded_in f w h coded) 0 3; uncoded = tabulated (uncoded_in f w h coded) 0 3; modes = numbers }

  -- what a frame of a kind adds; "coded plus uncoded by NBS times its accepted intra and inter frames", so a repeat adds nothing
  unfoldable pub frame_counts : Kind → (coded modes : List ℕ) → Counts
  frame_counts Intra coded modes = block_counts coded (replicate 8 0)
  frame_counts Inter coded modes = block_counts coded (mode_counts modes)
  frame_counts Repeat coded modes = no_counts
