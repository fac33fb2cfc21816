-- A worked example: a frame of two macro blocks across in 4:2:0, that is 8 blocks of luma and 2 of each chroma. Assumes nothing.
use mathlib.Core.Path.{◌≡◌, refl}
use mathlib.Core.List.{[], ◌∷◌}
use Rattle.bitstream.specs.Lists.{tabulated}
use Rattle.geometry.specs.declared.PixelFormat.TheVariants.{Chroma420}
use Rattle.geometry.specs.Sizes.{total, blocks_before}
use Rattle.frame_header.specs.declared.Kind.TheVariants.{Inter}
use Rattle.counting.specs.Counts.{count, frame_counts}

-- an inter frame that codes four blocks of luma, one of Cb and two of Cr; its modes are FOUR and LAST
some : frame_counts Chroma420 2 1 Inter (0 ∷ 1 ∷ 4 ∷ 7 ∷ 8 ∷ 10 ∷ 11 ∷ []) (7 ∷ 3 ∷ [])
    ≡ record { coded = 4 ∷ 1 ∷ 2 ∷ []; uncoded = 4 ∷ 1 ∷ 0 ∷ []; modes = 0 ∷ 0 ∷ 0 ∷ 1 ∷ 0 ∷ 0 ∷ 0 ∷ 1 ∷ [] }
unfolding frame_counts tabulated count blocks_before total
some = refl
