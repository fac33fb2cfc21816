-- A value between two others without a division: by weights.
use Rattle.std.specs.Prelude.{ℕ, ◌+◌, ◌*◌, ◌/◌, ◌≤◌, ◌<◌, ◌≡◌}
use Rattle.quant_ranges.specs.declared.Range.{Range}
use Rattle.matrix_values.specs.Values.{interpolated}
use Rattle.matrix_values.specs.declared.Weights.{Weights}

-- weights of two bytes, whose sum 16 bits hold
abbrev pub Light : Weights → Type 0
Light w = (w.before + w.behind ≤ 63) × (w.half ≤ 31)

-- the value between b₁ and b₂ by weights
unfoldable pub weighed : Weights → ℕ → ℕ → ℕ
weighed w b₁ b₂ = (w.before * b₁ + w.behind * b₂ + w.half) * w.reciprocal / 1048576

-- the weights of qi in a range: for any two bytes they give what the division gives
abbrev pub Weighs : Range → ℕ → Weights → Type 0
Weighs r qi w = (b₁ b₂ : ℕ) → b₁ < 256 → b₂ < 256 → weighed w b₁ b₂ ≡ interpolated r qi b₁ b₂
