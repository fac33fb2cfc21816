-- "Add, put in a half, take the floor, clamp": the colours of a pixel.
use Rattle.std.specs.Prelude.{ℕ, List, [], ◌∷◌, ℤ, pos, ◌+ℤ◌}
use Rattle.numeric.specs.Divide.{floor_shift}
use Rattle.numeric.specs.Clamp.{clamp255}
use Rattle.colour_tables.specs.declared.Chroma.{Chroma}
use Rattle.colour_tables.specs.Rule.{luma, red_cr, green_cb, green_cr, blue_cb, entry}

-- what Cb and Cr add to red, to green and to blue
abbrev pub chroma_of : (cb cr : ℕ) → Chroma
chroma_of cb cr = record { red = entry red_cr cr; green = entry green_cb cb +ℤ entry green_cr cr; blue = entry blue_cb cb }

-- "Add, put in a half": a colour's sum, of luma and of what chroma adds to the colour
unfoldable pub sum_of : (y : ℕ) (chroma : ℤ) → ℤ
sum_of y chroma = entry luma y +ℤ chroma +ℤ pos 32768

-- "take the floor": steps of 0 to 255, before clamping; "clamp"
abbrev pub steps_of : ℤ → ℤ
steps_of sum = floor_shift sum 16

unfoldable pub to_byte : ℤ → ℕ
to_byte sum = clamp255 (steps_of sum)

-- the colours of a pixel before clamping
abbrev pub red_steps : (y cr : ℕ) → ℤ
red_steps y cr = steps_of (sum_of y (entry red_cr cr))

abbrev pub green_steps : (y cb cr : ℕ) → ℤ
green_steps y cb cr = steps_of (sum_of y (entry green_cb cb +ℤ entry green_cr cr))

abbrev pub blue_steps : (y cb : ℕ) → ℤ
blue_steps y cb = steps_of (sum_of y (entry blue_cb cb))

-- "three bytes a pixel, R, G, B"
unfoldable pub colours : (y cb cr : ℕ) → List ℕ
colours y cb cr = clamp255 (red_steps y cr) ∷ clamp255 (green_steps y cb cr) ∷ clamp255 (blue_steps y cb) ∷ []
