-- One frame of 2 by 1 macro blocks, 4:2:0, by both ways, held to the checksum that an independent program gives. The picture's filter is a made-up one that no exchange of
-- samples or of edges leaves alone.
use mathlib.Core.Path.{◌≡◌, refl}
use mathlib.Core.Bool.{Bool, true, cond}
use mathlib.Core.List.{List, [], ◌∷◌}
use Prim.Native.Nat.{ℕ, zero, suc, ◌+◌, ◌*◌, ◌%◌}
use lib.Dec.{eqb}
use Rattle.geometry.specs.declared.PixelFormat.TheVariants.{Chroma420}
use Rattle.geometry.specs.Sizes.{total, blocks_before}
use Rattle.geometry.specs.Order.{in_turn}
use Rattle.geometry.specs.Raster.{raster_number, raster, grid}
use Rattle.geometry.specs.Sample.{sample_at, sample_in}
use Rattle.ways.specs.Loops.{up_to, over, passing}
use Rattle.ways.specs.Raster.{each_sample}
use Rattle.ways.specs.Ways.{Picture, first_way, second_way, filter_all, made, write_block, only_coded, across_edge, edge, edges_at, open_right, open_above, edges}

-- luma blocks 1, 2, 4 and 7, one of Cb's, one of Cr's
coded_no : ℕ → Bool
coded_no n = cond (eqb n 1) true (cond (eqb n 2) true (cond (eqb n 4) true (cond (eqb n 7) true (cond (eqb n 8) true (eqb n 11)))))

example : Picture
example = record {
  coded = λ b. coded_no (raster_number Chroma420 2 1 b);
  sample = λ b c r. (raster_number Chroma420 2 1 b * 37 + c * 11 + r * 29) % 256;
  filtered = λ p0 p1 p2 p3. ((p0 + 3 * p1 + p2) % 256, (p1 + 5 * p2 + 7 * p3) % 256);
}

-- previous: 0, 7, 14, .. modulo 256
upward : ℕ → ℕ → List ℕ
upward zero i = []
upward (suc n) i = (i * 7) % 256 ∷ upward n (i + 1)

checksum : ℕ → List ℕ → ℕ
checksum a [] = a
checksum a (v ∷ vs) = checksum ((a * 31 + v) % 65521) vs

first_is : checksum 0 (first_way Chroma420 2 1 example (upward 768 0)) ≡ 40322
unfolding checksum first_way filter_all example coded_no upward up_to over in_turn total blocks_before sample_at sample_in grid raster raster_number each_sample made across_edge edge edges_at open_right open_above edges
first_is = refl

second_is : checksum 0 (second_way Chroma420 2 1 example (upward 768 0)) ≡ 40322
unfolding checksum second_way example coded_no upward up_to over passing in_turn total blocks_before sample_at sample_in grid raster raster_number write_block only_coded across_edge edge edges_at open_right open_above edges
second_is = refl
