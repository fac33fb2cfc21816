-- Examples, by computation. Assumes nothing.
use Prim.Native.Nat.{ℕ, ◌-◌}
use mathlib.Core.Path.{◌≡◌, refl}
use mathlib.Core.List.{List, [], ◌∷◌, ◌++◌}
use lib.IntN.{pos, negsuc}
use lib.ListN.{take, replicate}
use Rattle.numeric.specs.Divide.{round_over}
use Rattle.numeric.specs.Clamp.{clamp255}
use Rattle.geometry.specs.declared.PixelFormat.TheVariants.{Chroma420, Chroma422}
use Rattle.geometry.specs.Sizes.{total, blocks_before}
use Rattle.geometry.specs.Order.{in_turn}
use Rattle.colour_tables.specs.Rule.{luma, red_cr, green_cb, green_cr, blue_cb, entry}
use Rattle.rgb.specs.Pixel.{sum_of, green_steps, colours}
use Rattle.rgb.specs.Exact.{green_over, green_exact}
use Rattle.rgb.specs.Picture.{picture_row, picture}

-- ---- pixels
black : colours 16 128 128 ≡ 0 ∷ 0 ∷ 0 ∷ []
unfolding colours sum_of entry round_over clamp255
black = refl

white : colours 235 128 128 ≡ 255 ∷ 255 ∷ 255 ∷ []
unfolding colours sum_of entry round_over clamp255
white = refl

red : colours 81 90 240 ≡ 254 ∷ 0 ∷ 0 ∷ []
unfolding colours sum_of entry round_over clamp255
red = refl

green : colours 145 54 34 ≡ 0 ∷ 255 ∷ 1 ∷ []
unfolding colours sum_of entry round_over clamp255
green = refl

blue : colours 41 240 110 ≡ 0 ∷ 0 ∷ 255 ∷ []
unfolding colours sum_of entry round_over clamp255
blue = refl

least : colours 0 0 0 ≡ 0 ∷ 136 ∷ 0 ∷ []
unfolding colours sum_of entry round_over clamp255
least = refl

most : colours 255 255 255 ≡ 255 ∷ 125 ∷ 255 ∷ []
unfolding colours sum_of entry round_over clamp255
most = refl

-- the exact green rounds to 2 here: to add rounded contributions is not to round the sum
green_adds : green_steps 11 3 178 ≡ pos 3
unfolding sum_of entry round_over
green_adds = refl

green_exact_law : round_over green_over (green_exact 11 3 178) ≡ pos 2
unfolding round_over
green_exact_law = refl

-- ---- the ends of the tables
luma_ends : (entry luma 0 ≡ negsuc 1220944) × (entry luma 255 ≡ pos 18237861)
unfolding entry round_over
luma_ends = (refl, refl)

red_ends : (entry red_cr 0 ≡ negsuc 13388442) × (entry red_cr 255 ≡ pos 13283846)
unfolding entry round_over
red_ends = (refl, refl)

green_cb_ends : (entry green_cb 0 ≡ pos 3286340) × (entry green_cb 255 ≡ negsuc 3260665)
unfolding entry round_over
green_cb_ends = (refl, refl)

green_cr_ends : (entry green_cr 0 ≡ pos 6819667) × (entry green_cr 255 ≡ negsuc 6766387)
unfolding entry round_over
green_cr_ends = (refl, refl)

blue_ends : (entry blue_cb 0 ≡ negsuc 16921769) × (entry blue_cb 255 ≡ pos 16789568)
unfolding entry round_over
blue_ends = (refl, refl)

-- ---- pictures of one macro block
-- the last row of the buffer's luma, which is white, is the first of the picture
top_first : picture Chroma420 1 1 (replicate 240 16 ++ (replicate 16 235 ++ replicate 128 128)) ≡ replicate 48 255 ++ replicate 720 0
unfolding picture picture_row in_turn blocks_before total colours sum_of entry round_over clamp255
top_first = refl

-- "Subsampled chroma is repeated": a chroma sample serves two pixels of a row, in 4:2:0 of two rows, in 4:2:2 of one
abbrev one_red : ℕ → List ℕ
one_red n = replicate 256 81 ++ (replicate n 90 ++ (240 ∷ replicate (n - 1) 128))

two_by_two : take 9 (picture_row Chroma420 1 1 (one_red 64) 1) ≡ 254 ∷ 0 ∷ 0 ∷ 254 ∷ 0 ∷ 0 ∷ 76 ∷ 91 ∷ 0 ∷ []
unfolding picture_row in_turn blocks_before total colours sum_of entry round_over clamp255
two_by_two = refl

two_by_one : take 9 (picture_row Chroma422 1 1 (one_red 128) 1) ≡ 76 ∷ 91 ∷ 0 ∷ 76 ∷ 91 ∷ 0 ∷ 76 ∷ 91 ∷ 0 ∷ []
unfolding picture_row in_turn blocks_before total colours sum_of entry round_over clamp255
two_by_one = refl
