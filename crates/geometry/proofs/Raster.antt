-- Rows of w, one after the other: place (x, y) is y w + x. A bijection with the numbers below h w.
use mathlib.Core.Path.{◌≡◌, sym, ap, ◌∙◌}
use Prim.Native.Nat.{ℕ, zero, suc, ◌+◌, ◌*◌, ◌/◌, ◌%◌, ◌<◌}
use native.Mathlib.Nat.{suc-mul, mul-le-mul_right, mul-add-div_right, mul-add-mod_self_right, div-eq_of_lt, mod-eq_of_lt, mod-lt, div-add-mod', div-lt_iff_lt-mul}
use native.Mathlib.Omega.{arith}

module _ (w : ℕ) where
  pub raster_below : (h x y : ℕ) → x < w → y < h → y * w + x < h * w
  raster_below h x y hx hy = omega (arith, suc-mul y w, mul-le-mul_right w hy)

  pub raster_row : (x y : ℕ) → x < w → (y * w + x) / w ≡ y
  raster_row x y hx = let p : 0 < w = omega arith in mul-add-div_right p y x ∙ omega (arith, div-eq_of_lt hx)

  pub raster_column : (x y : ℕ) → x < w → (y * w + x) % w ≡ x
  raster_column x y hx = mul-add-mod_self_right y w x ∙ mod-eq_of_lt hx

  pub raster_once : (x y x' y' : ℕ) → x < w → x' < w → y * w + x ≡ y' * w + x' → (x ≡ x') × (y ≡ y')
  raster_once x y x' y' h h' e =
      (sym (raster_column x y h) ∙ ap (λ (n : ℕ). n % w) e ∙ raster_column x' y' h', sym (raster_row x y h) ∙ ap (λ (n : ℕ). n / w) e ∙ raster_row x' y' h')

  pub raster_back : (h o : ℕ) → o < h * w → (0 < w) × (o % w < w) × (o / w < h) × (o / w * w + o % w ≡ o)
  raster_back h o ho = (p, mod-lt o p, (div-lt_iff_lt-mul p).1 ho, div-add-mod' o w)
    where
      some : (n : ℕ) → o < h * n → 0 < n
      some zero l = absurd (omega arith)
      some (suc n) l = omega arith

      p : 0 < w
      p = some w ho
