-- Worked examples; -(n + 1) is `negsuc n`.
-- Assumes nothing.
use mathlib.Core.Path.{◌≡◌, refl}
use lib.IntN.{pos, negsuc, ◌+ℤ◌}
use Rattle.numeric.specs.Cut.{mod16, read16, cut}
use Rattle.numeric.specs.Divide.{floor_shift, toward_zero, round_over}
use Rattle.numeric.specs.Clamp.{clamp255}

-- 32767 + 1 cut is -32768
cut_past : cut (pos 32767 +ℤ pos 1) ≡ negsuc 32767
unfolding cut read16 mod16
cut_past = refl

-- -1 >> 3 is -1, -7 // 2 is -3
divided : (floor_shift (negsuc 0) 3 ≡ negsuc 0) × (toward_zero (negsuc 6) 2 ≡ negsuc 2)
divided = (refl, refl)

-- round(-2/4) is -1, round(2/4) is 1, round(-1/4) is 0
rounded_4 : (round_over 4 (negsuc 1) ≡ negsuc 0) × (round_over 4 (pos 2) ≡ pos 1) × (round_over 4 (negsuc 0) ≡ pos 0)
unfolding round_over
rounded_4 = (refl, refl, refl)

-- round(-1/2) is -1, round(1/2) is 1
rounded_2 : (round_over 2 (negsuc 0) ≡ negsuc 0) × (round_over 2 (pos 1) ≡ pos 1)
unfolding round_over
rounded_2 = (refl, refl)

-- -1 clamps to 0, 256 to 255
clamped : (clamp255 (negsuc 0) ≡ 0) × (clamp255 (pos 256) ≡ 255)
unfolding clamp255
clamped = (refl, refl)
