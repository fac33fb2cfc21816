-- Worked examples.
use mathlib.Core.Path.{◌≡◌, refl}
use Rattle.matrix_values.specs.Values.{interpolated, minimum, scaled}

-- "intra DC, scale 10, BM 16: 16"
pub intra_dc : scaled (minimum 0 0) 10 16 ≡ 16
unfolding scaled minimum
intra_dc = refl

-- "AC scale 65535, BM 255: 4096", for both types
pub intra_ac : scaled (minimum 0 1) 65535 255 ≡ 4096
unfolding scaled minimum
intra_ac = refl

pub inter_ac : scaled (minimum 1 1) 65535 255 ≡ 4096
unfolding scaled minimum
inter_ac = refl

-- halfway between 10 and 13 is 11.5, which the rounding term takes up to 12
halfway : interpolated (record { number = 0; start = 0; size = 2 }) 1 10 13 ≡ 12
unfolding interpolated
halfway = refl
