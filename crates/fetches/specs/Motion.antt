-- "Vectors are half samples, quarter along a subsampled axis": where a component of a vector leads, and what is fetched there.
use Rattle.std.specs.Prelude.{Bool, true, false, cond, List, ℕ, zero, suc, ◌+◌, ◌-◌, ◌*◌, ◌/◌, min, ℤ, pos, negsuc, neg_ℤ, get_or}
use Rattle.geometry.specs.declared.PixelFormat.{PixelFormat}
use Rattle.geometry.specs.declared.PixelFormat.TheVariants.{Chroma420, Chroma422, Chroma444}
use Rattle.geometry.specs.declared.Plane.{Plane}

-- "4:2:0, 4:2:2 (half width), 4:4:4": is plane p subsampled across, and up?
unfoldable pub subsampled_across : PixelFormat → ℕ → Bool
subsampled_across f zero = false
subsampled_across Chroma420 (suc p) = true
subsampled_across Chroma422 (suc p) = true
subsampled_across Chroma444 (suc p) = false

unfoldable pub subsampled_up : PixelFormat → ℕ → Bool
subsampled_up f zero = false
subsampled_up Chroma420 (suc p) = true
subsampled_up Chroma422 (suc p) = false
subsampled_up Chroma444 (suc p) = false

-- "half samples, quarter along a subsampled axis": how many steps of a vector make a sample
abbrev pub steps : Bool → ℕ
steps subsampled = cond subsampled 4 2

-- a number with another magnitude and the same sign
abbrev pub on_magnitude : (ℕ → ℕ) → ℤ → ℤ
on_magnitude g (pos n) = pos (g n)
on_magnitude g (negsuc n) = neg_ℤ (pos (g (suc n)))

-- "magnitudes down and up": z of which d make a sample, in whole samples
unfoldable pub down : ℕ → ℤ → ℤ
down d = on_magnitude (λ n. n / d)

unfoldable pub rounded_up : ℕ → ℤ → ℤ
rounded_up d = on_magnitude (λ n. (n + (d - 1)) / d)

-- "Fetches clamp to the plane": the nearest number from 0 to size - 1
unfoldable pub inside : ℕ → ℤ → ℕ
inside size (pos n) = min n (size - 1)
inside size (negsuc n) = 0

-- the sample of plane q in a column and a row, each clamped by itself
unfoldable pub fetch : Plane → List ℕ → ℤ → ℤ → ℕ
fetch q s column row = get_or s (q.offset + (inside (8 * q.up) row * (8 * q.across) + inside (8 * q.across) column)) 0
