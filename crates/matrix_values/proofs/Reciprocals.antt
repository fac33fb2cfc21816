-- Weights in place of a division: a product with the reciprocal has the same quotient. Assumes nothing.
use Prim.Native.Nat.{ℕ, ◌+◌, ◌-◌, ◌*◌, ◌/◌, ◌≤◌, ◌<◌}
use native.Mathlib.Omega.{arith}
use native.Mathlib.Nat.{mul-le-mul, mul-le-mul_left, mul-le-mul_right, lt_of_mul-lt-mul_left, div-mul-le_self, mul-div-le, le-div_iff_mul-le, lt-mul-div-succ, div-eq_of_lt-le, div-le_of_le-mul, div-div-eq-div-mul, mul-div-mul_left}
use mathlib.Core.Path.{◌≡◌, sym, ap, ap₂, ◌∙◌}
use Rattle.quant_ranges.specs.Ranges.{InRange}
use Rattle.matrix_values.specs.Values.{interpolated}
use Rattle.matrix_values.specs.Weights.{Light, weighed, Weighs}
use Rattle.quant_ranges.specs.declared.Range.{Range}
use Rattle.matrix_values.specs.declared.Weights.{Weights}

-- ---- a quotient by a reciprocal that is rounded up: exact while the error, x * d at most, stays below n
quotient : (n d x m q : ℕ) → n < d * m → d * m ≤ n + d → q * d ≤ x → x < d * (q + 1) → x * d < n → x * m / n ≡ q
quotient n d x m q over near low high small =
    let a : q * n ≤ q * (d * m) = mul-le-mul_left q (omega arith) in
    let b : q * d * m ≤ x * m = mul-le-mul_right m low in
    let e : x * (d * m) ≤ x * (n + d) = mul-le-mul_left x near in
    let f : (x + 1) * n ≤ d * (q + 1) * n = mul-le-mul_right n (omega arith) in
    div-eq_of_lt-le {k = q} n {m = x * m} (omega (arith, a, b)) (lt_of_mul-lt-mul_left d {m = x * m} {n = (q + 1) * n} (omega (arith, e, f, small)))

pub reciprocal : (n d x : ℕ) → 0 < d → x * d < n → x * (n / d + 1) / n ≡ x / d
reciprocal n d x some small =
    let a : n < d * (n / d + 1) = lt-mul-div-succ n some in
    let b : d * (n / d + 1) ≤ n + d = omega (arith, mul-div-le n d) in
    quotient n d x (n / d + 1) (x / d) a b (div-mul-le_self x d) (lt-mul-div-succ x some) small

-- ---- all times a factor, and half of both
factor_out : (x y n f b₁ b₂ : ℕ) → 0 < f → (x * f * b₁ + y * f * b₂ + n * f / 2) / (n * f) ≡ (2 * x * b₁ + 2 * y * b₂ + n) / (2 * n)
factor_out x y n f b₁ b₂ some =
    let halves : (2 * (x * f * b₁ + y * f * b₂) + n * f) / 2 ≡ x * f * b₁ + y * f * b₂ + n * f / 2 = omega arith in
    let above : 2 * (x * f * b₁ + y * f * b₂) + n * f ≡ f * (2 * x * b₁ + 2 * y * b₂ + n) = omega arith in
    let below : 2 * (n * f) ≡ f * (2 * n) = omega arith in
    ap (λ (t : ℕ). t / (n * f)) (sym halves) ∙ div-div-eq-div-mul (2 * (x * f * b₁ + y * f * b₂) + n * f) 2 (n * f)
    ∙ ap₂ (λ (s t : ℕ). s / t) above below ∙ mul-div-mul_left (2 * x * b₁ + 2 * y * b₂ + n) (2 * n) some

-- ---- the weights of a range
sum_of : (x y n f : ℕ) → x + y ≡ n → x * f + y * f ≡ n * f
sum_of x y n f e = omega (arith, ap (λ (t : ℕ). t * f) e)

-- 63 / n times n: from 32 to 63
module _ (n : ℕ) (some : 1 ≤ n) (few : n ≤ 63) where
  factor_some : 0 < 63 / n
  factor_some = (le-div_iff_mul-le {k = n} {x = 1} {y = 63} some).1 (omega arith)

  pub whole_high : n * (63 / n) ≤ 63
  whole_high = mul-div-le 63 n

  pub whole_low : 32 ≤ n * (63 / n)
  whole_low =
      let a : n * 1 ≤ n * (63 / n) = mul-le-mul_left n factor_some in
      omega (arith, a, lt-mul-div-succ 63 some)

pub reciprocal_low : (w : ℕ) → 32 ≤ w → 1048576 / w ≤ 32768
reciprocal_low w h = let a : 32 * 32768 ≤ w * 32768 = mul-le-mul_right 32768 h in div-le_of_le-mul w (omega (arith, a))

-- what two bytes come to
pub sum_low : (u v h b₁ b₂ : ℕ) → u + v ≤ 63 → h ≤ 31 → b₁ < 256 → b₂ < 256 → u * b₁ + v * b₂ + h ≤ 16096
sum_low u v h b₁ b₂ light half l₁ l₂ =
    let a : u * b₁ ≤ u * 255 = mul-le-mul_left u (omega arith) in
    let b : v * b₂ ≤ v * 255 = mul-le-mul_left v (omega arith) in
    omega (arith, a, b)

module _ (r : Range) (qi : ℕ) (i : InRange r qi) where
  abbrev n : ℕ
  n = r.size

  abbrev f : ℕ
  f = 63 / r.size

  abbrev weights : Weights
  weights = record { before = (r.start + r.size - qi) * f; behind = (qi - r.start) * f; half = n * f / 2; reciprocal = 1048576 / (n * f) + 1 }

  few : n ≤ 63
  few = omega (arith, i.low)

  pub is_light : Light weights
  is_light =
      let e = sum_of (r.start + r.size - qi) (qi - r.start) n f (omega (arith, i.from, i.to)) in
      (omega (arith, e, whole_high n i.some few), omega (arith, whole_high n i.some few))

  pub weights_are : Weighs r qi weights
  unfolding weighed interpolated
  weights_are b₁ b₂ l₁ l₂ =
      let x = r.start + r.size - qi in
      let y = qi - r.start in
      let w = n * f in
      let s = x * f * b₁ + y * f * b₂ + n * f / 2 in
      let high : s * w ≤ 16096 * 63 = mul-le-mul {n₁ = s} {m₁ = w} {n₂ = 16096} {m₂ = 63} (sum_low (x * f) (y * f) (n * f / 2) b₁ b₂ is_light.0 is_light.1 l₁ l₂) (whole_high n i.some few) in
      reciprocal 1048576 w s (omega (arith, whole_low n i.some few)) (omega (arith, high)) ∙ factor_out x y n f b₁ b₂ (factor_some n i.some few)
