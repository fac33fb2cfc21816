-- Worked examples of vectors; -(n + 1) is `negsuc n`.
use mathlib.Core.Path.{◌≡◌, refl}
use mathlib.Core.List.{List, [], ◌∷◌, ◌++◌}
use mathlib.Core.Bool.{true}
use lib.IntN.{ℤ, pos, negsuc}
use lib.ListN.{replicate}
use Rattle.bitstream.specs.Bits.{bit_at, number}
use Rattle.bitstream.specs.Reading.{got, refused, field, whole}
use Rattle.numeric.specs.Divide.{round_over}
use Rattle.geometry.specs.declared.PixelFormat.TheVariants.{Chroma420, Chroma422}
use Rattle.geometry.specs.Sizes.{total, blocks_before}
use Rattle.geometry.specs.Order.{in_turn, present, shifted, square, row as rowOfSquares, ordered}
use Rattle.geometry.specs.Macro.{four_of, chroma_of, blocks_of_macro}
use Rattle.geometry.specs.Raster.{raster_number}
use Rattle.block_record.specs.declared.Vector.{Vector}
use Rattle.block_record.specs.declared.Prediction.{Prediction}
use Rattle.block_record.specs.declared.Prediction.TheVariants.{None, Previous, Golden}
use Rattle.block_record.specs.declared.BlockRecord.{BlockRecord}
use Rattle.block_record.specs.Record.{uncoded}
use Rattle.numeric.specs.Sign.{with_sign}
use Rattle.motion_reader.specs.Component.{added, shortest, width, least, variable, by_code, component, vector}
use Rattle.motion_reader.specs.Motion.{motion, moving, moving_golden, if_coded, row, moving_four, mean_of_two, mean_of_four, luma_vector, chroma_vector, four_vector, prediction_of}
use Rattle.motion.specs.Kept.{still, last_read}
use Rattle.vectors.specs.Vectors.{number_in, coded_in, predicted_at, predicted_from, macro_block, macro_blocks, vectors}

abbrev v : ℤ → ℤ → Vector
v x y = record { x = x; y = y }

abbrev with : Prediction → BlockRecord
with p = record { coded = true; qi_index = 0; prediction = p }

-- 101, then 11 added to 4, and the sign 1: -7
seven : component 0 (0xBC ∷ []) 0 ≡ got (negsuc 6) 6
unfolding component by_code variable added with_sign shortest width least whole field number bit_at
seven = refl

-- five bits of which four are there: reported at the component's first bit
cut : component 1 (0xFF ∷ []) 4 ≡ refused 4 4
unfolding component by_code variable added with_sign shortest width least whole field number bit_at
cut = refl

-- no block is coded: the vector bit is read all the same, and must be there
bit : vectors Chroma420 1 1 (0 ∷ []) (replicate 6 uncoded) (0x80 ∷ []) 0 ≡ got (replicate 6 uncoded) 1
unfolding vectors macro_blocks macro_block motion still moving moving_golden last_read moving_four row if_coded vector component by_code variable added with_sign shortest width least predicted_from predicted_at coded_in number_in prediction_of four_vector luma_vector chroma_vector mean_of_two mean_of_four round_over raster_number blocks_before total blocks_of_macro four_of chroma_of ordered rowOfSquares square present shifted in_turn whole field number bit_at
bit = refl

no_bit : vectors Chroma420 1 1 (0 ∷ []) (replicate 6 uncoded) [] 0 ≡ refused 4 0
unfolding vectors macro_blocks macro_block motion still moving moving_golden last_read moving_four row if_coded vector component by_code variable added with_sign shortest width least predicted_from predicted_at coded_in number_in prediction_of four_vector luma_vector chroma_vector mean_of_two mean_of_four round_over raster_number blocks_before total blocks_of_macro four_of chroma_of ordered rowOfSquares square present shifted in_turn whole field number bit_at
no_bit = refl

-- FOUR in 4:2:0: A is (1, 0), B (1, -1), C (0, -1), D is not coded and zero; the means are 2/4 and -2/4, which round to 1 and -1
four : vectors Chroma420 1 1 (7 ∷ []) (with None ∷ with None ∷ with None ∷ uncoded ∷ with None ∷ with None ∷ []) (0x10 ∷ 0x50 ∷ 0x40 ∷ []) 0
    ≡ got
    (with (Previous (v (pos 1) (pos 0))) ∷ with (Previous (v (pos 1) (negsuc 0))) ∷ with (Previous (v (pos 0) (negsuc 0))) ∷ uncoded
    ∷ with (Previous (v (pos 1) (negsuc 0))) ∷ with (Previous (v (pos 1) (negsuc 0))) ∷ [])
    19
unfolding vectors macro_blocks macro_block motion still moving moving_golden last_read moving_four row if_coded vector component by_code variable added with_sign shortest width least predicted_from predicted_at coded_in number_in prediction_of four_vector luma_vector chroma_vector mean_of_two mean_of_four round_over raster_number blocks_before total blocks_of_macro four_of chroma_of ordered rowOfSquares square present shifted in_turn whole field number bit_at
four = refl

-- in 4:2:2 the upper chroma block has the mean of C and D: 1/2 and -1/2
upper : four_vector Chroma422 (record { left = v (pos 9) (pos 9); right = v (pos 9) (pos 9) }) (record { left = v (pos 1) (pos 0); right = v (pos 0) (negsuc 0) }) 5 ≡ v (pos 1) (negsuc 0)
unfolding four_vector chroma_vector mean_of_two round_over
upper = refl

-- the other modes, in a row of eight macro blocks of which only block A is coded: MV (5, -3), MV (1, 0), LAST2 (5, -3), LAST (5, -3), NOMV, INTRA, GOLDEN_NOMV, GOLDEN_MV (0, 2)
abbrev coded_a : List BlockRecord
coded_a = with None ∷ uncoded ∷ with None ∷ uncoded ∷ with None ∷ uncoded ∷ with None ∷ uncoded ∷ with None ∷ uncoded ∷ with None ∷ uncoded ∷ with None ∷ uncoded ∷ with None ∷ uncoded ∷ []

modes : vectors Chroma420 8 1 (2 ∷ 2 ∷ 4 ∷ 3 ∷ 0 ∷ 1 ∷ 5 ∷ 6 ∷ []) (coded_a ++ replicate 32 uncoded) (0x94 ∷ 0x38 ∷ 0x40 ∷ 0x00 ∷ 0x20 ∷ []) 0
    ≡ got
    (with (Previous (v (pos 5) (negsuc 2))) ∷ uncoded ∷ with (Previous (v (pos 1) (pos 0))) ∷ uncoded
    ∷ with (Previous (v (pos 5) (negsuc 2))) ∷ uncoded ∷ with (Previous (v (pos 5) (negsuc 2))) ∷ uncoded
    ∷ with (Previous (v (pos 0) (pos 0))) ∷ uncoded ∷ with None ∷ uncoded
    ∷ with (Golden (v (pos 0) (pos 0))) ∷ uncoded ∷ with (Golden (v (pos 0) (pos 2))) ∷ uncoded
    ∷ replicate 32 uncoded)
    37
unfolding vectors macro_blocks macro_block motion still moving moving_golden last_read moving_four row if_coded vector component by_code variable added with_sign shortest width least predicted_from predicted_at coded_in number_in prediction_of four_vector luma_vector chroma_vector mean_of_two mean_of_four round_over raster_number blocks_before total blocks_of_macro four_of chroma_of ordered rowOfSquares square present shifted in_turn whole field number bit_at
modes = refl
