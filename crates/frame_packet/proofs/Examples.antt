-- Worked examples: a frame of one macro block in 4:2:0.
use Prim.Native.Nat.{ℕ}
use mathlib.Core.Path.{◌≡◌, refl}
use mathlib.Core.List.{List, [], ◌∷◌}
use mathlib.Core.Bool.{true, false}
use lib.ListN.{replicate}
use lib.IntN.{ℤ, pos, negsuc}
use Rattle.bitstream.specs.Bits.{bit_at, number}
use Rattle.bitstream.specs.Reading.{got, refused, field, judged, until, whole, unary}
use Rattle.runs.specs.Runs.{most, start as leastRun, extra as run_extra, run_length, run, next_bit, one_run, sent, bit_string}
use Rattle.geometry.specs.declared.PixelFormat.TheVariants.{Chroma420}
use Rattle.geometry.specs.Sizes.{total, blocks_of, super_blocks_of, blocks_before}
use Rattle.geometry.specs.Order.{in_turn, present, shifted, square, row as rowOfSquares, ordered}
use Rattle.geometry.specs.Frame.{in_plane, plane_order, frame_order, super_blocks_before, super_block_in, super_block_of}
use Rattle.geometry.specs.Macro.{four_of, chroma_of, blocks_of_macro}
use Rattle.geometry.specs.Raster.{raster_number}
use Rattle.huffman.specs.Tree.{leaf}
use Rattle.huffman.specs.Code.{code, token_code}
use Rattle.block_record.specs.declared.BlockRecord.{BlockRecord}
use Rattle.block_record.specs.Record.{uncoded, now_coded}
use Rattle.frame_header.specs.declared.Kind.{Kind}
use Rattle.frame_header.specs.declared.Kind.TheVariants.{Intra, Inter}
use Rattle.frame_header.specs.Header.{frame_type, more_qis, qi_list, reserved, kind_of, frame_header}
use Rattle.coded_flags.specs.Flags.{ones, sizes_from, super_flags, partly_blocks, spread, inter_flags, intra_flags}
use Rattle.coded_flags.specs.Coded.{order, flagged, coded_blocks, coded_luma, set_at, coded_records}
use Rattle.modes.specs.Modes.{mode, sent_alphabet, luma_coded, mode_of, modes_from, macro_modes}
use Rattle.block_record.specs.declared.Prediction.TheVariants.{Previous}
use Rattle.vectors.specs.Component.{added, shortest, width, least, variable, by_code, component, vector}
use Rattle.vectors.specs.Motion.{motion, if_coded, row, moving_four, luma_vector, four_vector, prediction_of}
use Rattle.motion.specs.Kept.{still, last_read}
use Rattle.vectors.specs.Vectors.{number_in, coded_in, predicted_at, predicted_from, macro_block, macro_blocks, vectors}
use Rattle.block_qi.specs.BlockQi.{qi_steps, block_qi}
use Rattle.numeric.specs.Sign.{with_sign}
use Rattle.token.specs.Token.{row_of, meaning, extra}
use Rattle.token_reader.specs.Reader.{token}
use Rattle.block_positions.specs.Positions.{unfinished, run_of}
use Rattle.block_visits.specs.Visits.{act, read_for, visit}
use Rattle.token_visits.specs.Visits.{pass}
use Rattle.table_choices.specs.Choices.{group, choices}
use Rattle.tokens.specs.Tokens.{table, at_position, positions_from, ranks, start, read_tokens}
use Rattle.packet_body.specs.Frame.{Frame, flags_of, modes_of, vectors_of, body, frame, frame_packet}

abbrev given : Kind → List ℕ → List ℕ → List ℕ → List BlockRecord → List ℤ → List ℕ → ℕ → Frame
given kind qis coded modes records coefs lasts tokens = record {
  header = record { kind = kind; qis = qis };
  body = record { coded = coded; modes = modes; records = records; tokens = record { coefs = coefs; lasts = lasts; tokens = tokens } };
}

-- "9 comes at the frame type bit (at once if empty)"
empty : frame_packet Chroma420 1 1 [] false [] ≡ refused 9 0
unfolding frame_packet
empty = refl

inter_alone : frame_packet Chroma420 1 1 [] false (0x40 ∷ []) ≡ refused 9 1
unfolding frame_packet frame frame_header frame_type more_qis qi_list reserved kind_of judged field number bit_at
inter_alone = refl

no_frame : frame_packet Chroma420 1 1 [] true (0x80 ∷ []) ≡ refused 10 0
unfolding frame_packet frame frame_header frame_type more_qis qi_list reserved kind_of judged field number bit_at
no_frame = refl

reserved_set : frame_packet Chroma420 1 1 [] true (0x10 ∷ 0x10 ∷ []) ≡ refused 11 9
unfolding frame_packet frame frame_header frame_type more_qis qi_list reserved kind_of judged field number bit_at
reserved_set = refl

-- an inter frame with the qi 1 and no coded block: no super block partly coded and none of them fully; modes sent raw, of which there are none; the vector bit; the four choices
nothing : frame_packet Chroma420 1 1 [] true (0x41 ∷ 0x2A ∷ 0xF0 ∷ 0x00 ∷ 0x00 ∷ []) ≡ got (given Inter (1 ∷ []) [] (0 ∷ []) (replicate 6 uncoded) [] [] 0) 37
unfolding frame_packet frame frame_header frame_type more_qis qi_list reserved kind_of judged body flags_of modes_of vectors_of
    inter_flags super_flags sizes_from partly_blocks spread ones super_block_of super_block_in super_blocks_before super_blocks_of bit_string sent until one_run next_bit run run_length unary most run_extra leastRun
    order flagged coded_blocks coded_luma set_at coded_records raster_number frame_order plane_order in_plane in_turn ordered rowOfSquares square present shifted blocks_of blocks_before total
    macro_modes sent_alphabet modes_from mode_of luma_coded
    vectors macro_blocks macro_block motion still predicted_from predicted_at coded_in number_in prediction_of blocks_of_macro four_of chroma_of
    block_qi qi_steps read_tokens positions_from at_position choices table group ranks start pass whole field number bit_at
nothing = refl

-- four bytes of an intra frame with the qi 16, and lone leaves of the token 9: 64 times the value 1 in each block, for no bit but the four choices
pub ones_all : frame_packet Chroma420 1 1 (replicate 80 (leaf 9)) false (0x10 ∷ 0x00 ∷ 0x00 ∷ 0x00 ∷ []) ≡ got (given Intra (16 ∷ []) (0 ∷ 1 ∷ 3 ∷ 2 ∷ 4 ∷ 5 ∷ []) [] (replicate 6 now_coded) (replicate 384 (pos 1)) (replicate 6 63) 384) 28
unfolding frame_packet frame frame_header frame_type more_qis qi_list reserved kind_of judged body flags_of modes_of vectors_of
    intra_flags ones order flagged coded_blocks coded_luma set_at coded_records raster_number frame_order plane_order in_plane in_turn ordered rowOfSquares square present shifted blocks_of blocks_before total
    block_qi qi_steps read_tokens positions_from at_position choices table group ranks start pass visit read_for act run_of unfinished token token_code code extra meaning with_sign row_of whole field number bit_at
ones_all = refl

-- places of refusals inside a packet. 12: a run of 4 where 3 bits are wanted, at its prefix, behind the explicit bit
run_past : frame_packet Chroma420 1 1 [] true (0x41 ∷ 0x30 ∷ []) ≡ refused 12 10
unfolding frame_packet frame frame_header frame_type more_qis qi_list reserved kind_of judged body flags_of
    inter_flags super_flags super_blocks_of bit_string sent until one_run next_bit run run_length unary most run_extra leastRun blocks_of total whole field number bit_at
run_past = refl

-- 13: lone leaves of the token 8 (a run of zeros, 6 extra bits), each block with one zero at position 0; then 64 zeros from position 1 on, at that token's code, which is empty
token_past : frame_packet Chroma420 1 1 (replicate 80 (leaf 8)) false (0x10 ∷ 0x00 ∷ 0x00 ∷ 0x00 ∷ 0x00 ∷ 0x00 ∷ 0x00 ∷ 0x00 ∷ 0xFC ∷ []) ≡ refused 13 64
unfolding frame_packet frame frame_header frame_type more_qis qi_list reserved kind_of judged body flags_of modes_of vectors_of
    intra_flags ones order flagged coded_blocks coded_luma set_at coded_records raster_number frame_order plane_order in_plane in_turn ordered rowOfSquares square present shifted blocks_of blocks_before total
    block_qi qi_steps read_tokens positions_from at_position choices table group ranks start pass visit read_for act run_of unfinished token token_code code extra meaning with_sign row_of whole field number bit_at
token_past = refl

-- a block that is coded and predicted from previous by the vector (x, y)
abbrev moved_by : ℤ → ℤ → BlockRecord
moved_by x y = record { coded = true; qi_index = 0; prediction = Previous (record { x = x; y = y }) }

-- two macro blocks, and lone leaves of the token 0. The first has four vectors and its block D is not coded: A (1, 0), B (0, 1), C (-1, 2). The second, LAST,
-- of which only block A is coded, takes the last vector that was read, which is C's
four_then_last : frame_packet Chroma420 2 1 (replicate 80 (leaf 0)) true (0x41 ∷ 0x51 ∷ 0x28 ∷ 0x21 ∷ 0xFB ∷ 0x10 ∷ 0x0A ∷ 0x60 ∷ 0x00 ∷ 0x00 ∷ [])
    ≡ got (given Inter (1 ∷ []) (0 ∷ 1 ∷ 4 ∷ 2 ∷ []) (7 ∷ 3 ∷ [])
    (moved_by (pos 1) (pos 0) ∷ moved_by (pos 0) (pos 1) ∷ moved_by (negsuc 0) (pos 2) ∷ uncoded ∷ moved_by (negsuc 0) (pos 2) ∷ replicate 7 uncoded)
    (replicate 256 (pos 0)) (replicate 4 0) 4) 76
unfolding frame_packet frame frame_header frame_type more_qis qi_list reserved kind_of judged body flags_of modes_of vectors_of
    inter_flags super_flags sizes_from partly_blocks spread ones super_block_of super_block_in super_blocks_before super_blocks_of bit_string sent until one_run next_bit run run_length unary most run_extra leastRun
    order flagged coded_blocks coded_luma set_at coded_records raster_number frame_order plane_order in_plane in_turn ordered rowOfSquares square present shifted blocks_of blocks_before total
    macro_modes sent_alphabet modes_from mode_of mode luma_coded
    vectors macro_blocks macro_block motion still moving_four last_read row if_coded vector component by_code variable added shortest width least predicted_from predicted_at coded_in number_in prediction_of four_vector luma_vector blocks_of_macro four_of chroma_of
    block_qi qi_steps read_tokens positions_from at_position choices table group ranks start pass visit read_for act run_of unfinished token token_code code extra meaning with_sign row_of whole field number bit_at
four_then_last = refl

-- 4 within a vector: the same packet cut behind its sixth byte, in the first component of B, which is refused at its first bit
component_cut : frame_packet Chroma420 2 1 (replicate 80 (leaf 0)) true (0x41 ∷ 0x51 ∷ 0x28 ∷ 0x21 ∷ 0xFB ∷ 0x10 ∷ []) ≡ refused 4 47
unfolding frame_packet frame frame_header frame_type more_qis qi_list reserved kind_of judged body flags_of modes_of vectors_of
    inter_flags super_flags sizes_from partly_blocks spread ones super_block_of super_block_in super_blocks_before super_blocks_of bit_string sent until one_run next_bit run run_length unary most run_extra leastRun
    order flagged coded_blocks coded_luma set_at coded_records raster_number frame_order plane_order in_plane in_turn ordered rowOfSquares square present shifted blocks_of blocks_before total
    macro_modes sent_alphabet modes_from mode_of mode luma_coded
    vectors macro_blocks macro_block motion still moving_four last_read row if_coded vector component by_code variable added shortest width least predicted_from predicted_at coded_in number_in prediction_of four_vector luma_vector blocks_of_macro four_of chroma_of
    block_qi qi_steps read_tokens positions_from at_position choices table group ranks start pass visit read_for act run_of unfinished token token_code code extra meaning with_sign row_of whole field number bit_at
component_cut = refl
