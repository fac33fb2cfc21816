-- Worked examples.
use Prim.Native.Nat.{ℕ}
use mathlib.Core.Path.{◌≡◌, refl}
use mathlib.Core.List.{List, [], ◌∷◌}
use Rattle.bitstream.specs.Bits.{bit_at, number}
use Rattle.bitstream.specs.Lists.{among}
use Rattle.bitstream.specs.Reading.{got, refused, Parse, pure, field, many, whole, ◌>>=◌, ◌>>◌}
use Rattle.bitstream.proofs.Inside.{Inside, Refuses, inside, refuses}

-- 3 bits, then 5
three_five : Parse (List ℕ)
three_five = do
  a ← field 3
  b ← field 5
  pure (a ∷ b ∷ [])

-- "B1 hex read 3 then 5 bits: 5, 17"
b1 : three_five (0xB1 ∷ []) 0 ≡ got (5 ∷ 17 ∷ []) 8
unfolding three_five field number bit_at
b1 = refl

-- a zero-bit read gives 0 at the very end, and one bit more passes it
end_zero : field 0 (0xB1 ∷ []) 8 ≡ got 0 8
unfolding field number bit_at
end_zero = refl

end_one : (three_five >> field 1) (0xB1 ∷ []) 0 ≡ refused 4 8
unfolding three_five field number bit_at
end_one = refl

-- a field over a byte's border, and a composite whose refusal stands at its first bit
border : many 3 (field 6) (0x12 ∷ 0x34 ∷ 0x56 ∷ []) 2 ≡ got (18 ∷ 13 ∷ 5 ∷ []) 20
unfolding many field number bit_at
border = refl

whole_place : whole (many 3 (field 6)) (0x12 ∷ 0x34 ∷ []) 2 ≡ refused 4 2
unfolding whole many field number bit_at
whole_place = refl

-- what is refused there is refused by 4, at a place of the packet
three_five_inside : Inside 0 three_five
unfolding three_five
three_five_inside = search inside

three_five_refuses : Refuses (4 ∷ []) three_five
unfolding three_five among
three_five_refuses = search refuses
