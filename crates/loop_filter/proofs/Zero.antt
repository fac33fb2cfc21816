-- A limit of 0 changes nothing.
-- Assumes nothing.
use mathlib.Core.Path.{◌≡◌, refl, sym, ap, ◌∙◌}
use mathlib.Core.Bool.{Bool, true, false}
use mathlib.Core.List.{List, [], ◌∷◌}
use Prim.Native.Nat.{ℕ, zero, suc, ◌+◌, ◌-◌, ◌*◌, ◌≤◌}
use native.Mathlib.Omega.{arith}
use lib.Dec.{ltb}
use lib.IntN.{ℤ, pos, negsuc, neg_ℤ, ◌+ℤ◌, ◌-ℤ◌, +ℤ_idr}
use lib.ListN.{get_or, set}
use lib.Seq.{set-get_or}
use Rattle.numeric.specs.Clamp.{clamp255}
use Rattle.numeric.proofs.ClampLaws.{clamp_same}
use Rattle.geometry.specs.declared.PixelFormat.{PixelFormat}
use Rattle.geometry.specs.declared.Block.{Block}
use Rattle.geometry.specs.Sizes.{across}
use Rattle.geometry.specs.Sample.{sample_at}
use Rattle.ways.specs.Loops.{up_to, over, when}
use Rattle.geometry.specs.Raster.{raster}
use Rattle.ways.specs.Ways.{across_edge, edge, edges_at, open_right, open_above, edges, filter_all}
use Rattle.edge_filter.specs.Filter.{tent_of, limited_of, response_of, filtered}
use Rattle.edge_filter.proofs.Facts.{tent_high}

-- ---- f(R) is 0, and a sample is itself
zero_tent : (n : ℕ) → tent_of 0 n ≡ 0
zero_tent n = let e : 2 * 0 - n ≡ 0 = omega arith in sym (tent_high 0 n (omega arith)) ∙ e

zero_limited : (z : ℤ) → limited_of 0 z ≡ pos 0
unfolding limited_of
zero_limited (pos n) = ap pos (zero_tent n)
zero_limited (negsuc n) = ap (λ (m : ℕ). neg_ℤ (pos m)) (zero_tent (suc n))

zero_filtered : (p0 p1 p2 p3 : ℕ) → p1 ≤ 255 → p2 ≤ 255 → filtered 0 p0 p1 p2 p3 ≡ (p1, p2)
unfolding filtered
zero_filtered p0 p1 p2 p3 h₁ h₂ =
    let e = zero_limited (response_of p0 p1 p2 p3) in
    (λ i. (clamp255 (pos p1 +ℤ e i), clamp255 (pos p2 -ℤ e i)))
    ∙ (λ i. (clamp255 (+ℤ_idr (pos p1) i), clamp255 (+ℤ_idr (pos p2) i)))
    ∙ (λ i. (clamp_same p1 h₁ i, clamp_same p2 h₂ i))

-- ---- steps that leave s as it is
module _ {A : Type 0} (s : A) where
  when_still : (b : Bool) (f : A → A) → f s ≡ s → when b f s ≡ s
  when_still true f e = e
  when_still false f e = refl

  up_to_still : (n : ℕ) (f : ℕ → A → A) → ((k : ℕ) → f k s ≡ s) → up_to n f s ≡ s
  unfolding up_to
  up_to_still zero f e = refl
  up_to_still (suc n) f e = ap (f n) (up_to_still n f e) ∙ e n

  over_still : {B : Type 0} (bs : List B) (f : B → A → A) → ((b : B) → f b s ≡ s) → over bs f s ≡ s
  unfolding over
  over_still [] f e = refl
  over_still (b ∷ bs) f e = ap (over bs f) (e b) ∙ over_still bs f e

module _ (s : List ℕ) (bytes : (i : ℕ) → get_or s i 0 ≤ 255) where
  zero_across : (at step : ℕ) → across_edge (filtered 0) at step s ≡ s
  unfolding across_edge
  zero_across at step =
      let i₁ = at + step in
      let i₂ = at + step * 2 in
      let e = zero_filtered (get_or s at 0) (get_or s i₁ 0) (get_or s i₂ 0) (get_or s (at + step * 3) 0) (bytes i₁) (bytes i₂) in
      (λ i. set (set s i₁ (e i).0) i₂ (e i).1) ∙ ap (λ (t : List ℕ). set t i₂ (get_or s i₂ 0)) (set-get_or s i₁ 0) ∙ set-get_or s i₂ 0

  zero_edge : (at along step : ℕ) → edge (filtered 0) at along step s ≡ s
  unfolding edge
  zero_edge at along step = up_to_still s 8 (λ k. across_edge (filtered 0) (at + k * along) step) (λ k. zero_across (at + k * along) step)

  zero_edges_at : (corner row : ℕ) (left lower right upper : Bool) → edges_at (filtered 0) corner row left lower right upper s ≡ s
  unfolding edges_at
  zero_edges_at corner row left lower right upper =
      let f₂ = when lower (edge (filtered 0) (corner - 2 * row) 1 row) in
      let f₃ = when right (edge (filtered 0) (corner + 6) row 1) in
      let f₄ = when upper (edge (filtered 0) (corner + 6 * row) 1 row) in
      ap (λ (t : List ℕ). f₄ (f₃ (f₂ t))) (when_still s left (edge (filtered 0) (corner - 2) row 1) (zero_edge (corner - 2) row 1))
      ∙ ap (λ (t : List ℕ). f₄ (f₃ t)) (when_still s lower (edge (filtered 0) (corner - 2 * row) 1 row) (zero_edge (corner - 2 * row) 1 row))
      ∙ ap f₄ (when_still s right (edge (filtered 0) (corner + 6) row 1) (zero_edge (corner + 6) row 1))
      ∙ when_still s upper (edge (filtered 0) (corner + 6 * row) 1 row) (zero_edge (corner + 6 * row) 1 row)

  pub zero_filter : (f : PixelFormat) (w h : ℕ) (coded : Block → Bool) → filter_all f w h coded (filtered 0) s ≡ s
  unfolding filter_all edges
  zero_filter f w h coded =
      over_still s (raster f w h) (λ b. when (coded b) (edges f w h coded (filtered 0) b))
      (λ b. when_still s (coded b) (edges f w h coded (filtered 0) b)
      (zero_edges_at (sample_at f w h b 0 0) (8 * across f w b.plane) (ltb 0 b.x) (ltb 0 b.y) (open_right f w h coded b) (open_above f w h coded b)))
