-- Worked examples.
use mathlib.Core.Path.{◌≡◌, refl}
use mathlib.Core.List.{[], ◌∷◌}
use Rattle.bitstream.specs.Bits.{bit_at, number}
use Rattle.bitstream.specs.Reading.{got, refused, field, judged, until}
use Rattle.quantization.specs.Parameters.{Ranges, range, new_set, set_from, more_sets, matrix_count}
use Rattle.set_fields.specs.Fields.{digits, ilog, index, range_size, origin}

-- "NBMS 384 passes, 385 is 7": the judging step, on the field's 9 bits
pub nbms_384 : matrix_count (0xBF ∷ 0x80 ∷ []) 0 ≡ got 384 9
unfolding matrix_count judged field number bit_at
nbms_384 = refl

pub nbms_385 : matrix_count (0xC0 ∷ 0x00 ∷ []) 0 ≡ refused 7 0
unfolding matrix_count judged field number bit_at
nbms_385 = refl

-- one matrix: an index has no bits; one range of 63
one_range : new_set 1 (0xF8 ∷ []) 0 ≡ got (record { sizes = 63 ∷ []; indices = 0 ∷ 0 ∷ [] }) 6
unfolding new_set index range_size range until ilog digits judged field number bit_at
one_range = refl

-- 33, then 32 more: the sum is judged at the second size, before an index is read
too_far : new_set 1 (0x83 ∷ 0xE0 ∷ []) 0 ≡ refused 7 6
unfolding new_set index range_size range until ilog digits judged field number bit_at
too_far = refl

-- 62, then the last one, whose size has no bits
last_of_none : new_set 1 (0xF4 ∷ []) 0 ≡ got (record { sizes = 62 ∷ 1 ∷ []; indices = 0 ∷ 0 ∷ 0 ∷ [] }) 6
unfolding new_set index range_size range until ilog digits judged field number bit_at
last_of_none = refl

-- three matrices: the index 3 at the end of the range is judged too
later_index : new_set 3 (0x3E ∷ 0xC0 ∷ []) 0 ≡ refused 7 8
unfolding new_set index range_size range until ilog digits judged field number bit_at
later_index = refl

-- six sets over two matrices: one range from matrix 0 to 1; a copy; a new one from 1 to 0; a copy of the plane's for the type before; a copy of the last; a copy of the plane's
copies : more_sets 6 2 [] (0x7D ∷ 0x7F ∷ 0x11 ∷ []) 0
    ≡ got (let a : Ranges = record { sizes = 63 ∷ []; indices = 0 ∷ 1 ∷ [] } in let b : Ranges = record { sizes = 63 ∷ []; indices = 1 ∷ 0 ∷ [] } in a ∷ a ∷ b ∷ a ∷ a ∷ b ∷ []) 24
unfolding more_sets origin set_from new_set index range_size range until ilog digits judged field number bit_at
copies = refl
