-- A value by its coefficient. Assumes nothing.
use Prim.Native.Nat.{ℕ}
use mathlib.Core.Path.{◌≡◌, ap₂, ◌∙◌}
use borrow.Author.Tests.{eq-eqb, ne_eqb}
use Rattle.matrix_values.specs.Values.{interpolated, minimum, scaled}
use Rattle.matrices.specs.Matrix.{value_at}
use Rattle.quant_ranges.specs.declared.Range.{Range}
use Rattle.matrix_values.proofs.Values.{least_same}

module _ (type dc ac : ℕ) (r : Range) (qi c b₁ b₂ m v : ℕ) (is : v ≡ interpolated r qi b₁ b₂) where
  pub value_dc : m ≡ minimum type c → c ≡ 0 → scaled m dc v ≡ value_at type dc ac r qi c b₁ b₂
  unfolding value_at
  value_dc e h = ap₂ (λ (x y : ℕ). scaled x dc y) e is ∙ rw (eq-eqb _ _ h)

  pub value_ac : m ≡ minimum type 1 → (c ≡ 0 → ⊥) → scaled m ac v ≡ value_at type dc ac r qi c b₁ b₂
  unfolding value_at
  value_ac e h = ap₂ (λ (x y : ℕ). scaled x ac y) (e ∙ least_same type c h) is ∙ rw (ne_eqb _ _ h)
