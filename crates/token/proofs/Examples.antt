-- Worked examples.
use mathlib.Core.Path.{◌≡◌, refl}
use mathlib.Core.List.{[], ◌∷◌}
use lib.IntN.{pos, negsuc}
use Rattle.bitstream.specs.Bits.{bit_at, number}
use Rattle.bitstream.specs.Reading.{got, refused, field, whole}
use Rattle.numeric.specs.Sign.{with_sign}
use Rattle.token.specs.Token.{end_of_block, zero_run, coefficient, row_of, meaning, extra}

-- "3–6 end 4, 8, 16, 0 plus 2, 3, 4, 12 bits": the bits 10 after token 3
ends : extra 3 (0x80 ∷ []) 0 ≡ got (end_of_block 6) 2
unfolding extra meaning with_sign row_of field number bit_at
ends = refl

-- "7, 8 zeros, 1 plus 3 or 6 bits": the most that token 8 can say
zeros : extra 8 (0xFC ∷ []) 0 ≡ got (zero_run 64) 6
unfolding extra meaning with_sign row_of field number bit_at
zeros = refl

-- "9–12: 1, −1, 2, −2": no bits, even at the packet's end
minus_two : extra 12 [] 0 ≡ got (coefficient 0 (negsuc 1)) 0
unfolding extra meaning with_sign row_of field number bit_at
minus_two = refl

-- "17–22: sign, then .. 69 plus .. 9 bits": the largest value
largest : extra 22 (0xFF ∷ 0xC0 ∷ []) 0 ≡ got (coefficient 0 (negsuc 579)) 10
unfolding extra meaning with_sign row_of field number bit_at
largest = refl

-- "31: sign, 2 plus 1 bit, after 2 plus 1 bit zeros"
after_zeros : extra 31 (0x60 ∷ []) 0 ≡ got (coefficient 3 (pos 3)) 3
unfolding extra meaning with_sign row_of field number bit_at
after_zeros = refl

-- extra bits that the packet's end cuts are refused where they begin
cut : whole (extra 22) (0xFF ∷ []) 0 ≡ refused 4 0
unfolding whole extra meaning with_sign row_of field number bit_at
cut = refl
