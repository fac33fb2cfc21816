-- The value at one coefficient (002, "Computing a Quantization Matrix").
use Rattle.std.specs.Prelude.{ℕ, ◌+◌, ◌-◌, ◌*◌, ◌/◌, min, max, eqb}
use Rattle.bitstream.specs.Reading.{choose}
use Rattle.quant_ranges.specs.declared.Range.{Range}

-- "in its range from s to e, size n, BM = (2(e−qi)·B1 + 2(qi−s)·B2 + n)//(2n)"
unfoldable pub interpolated : Range → ℕ → ℕ → ℕ → ℕ
interpolated r qi b₁ b₂ = (2 * (r.start + r.size - qi) * b₁ + 2 * (qi - r.start) * b₂ + r.size) / (2 * r.size)

-- "m is 16 DC, 8 AC for intra, 32 DC, 16 AC for inter": of the type 0 or 1, at the coefficient c
unfoldable pub minimum : ℕ → ℕ → ℕ
minimum type c = choose (eqb c 0) (choose (eqb type 0) 16 32) (choose (eqb type 0) 8 16)

-- "Value = max(m, min(4·(scale·BM//100), 4096))"
unfoldable pub scaled : ℕ → ℕ → ℕ → ℕ
scaled m scale bm = max m (min (4 * (scale * bm / 100)) 4096)
