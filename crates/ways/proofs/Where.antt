-- Where blocks and samples stand: each number of the raster belongs to one block of the frame, and each sample stands at its address.
-- Assumes nothing.
use mathlib.Core.Path.{◌≡◌, refl, sym, ap, ◌∙◌, subst}
use mathlib.Core.List.{[], ◌∷◌}
use mathlib.Core.Logic.{◌⊎◌, inl, inr}
use Prim.Native.Nat.{ℕ, zero, suc, ◌+◌, ◌*◌, ◌/◌, ◌%◌, ◌<◌}
use native.Mathlib.Omega.{arith}
use lib.ListN.{length, get_or}
use Rattle.geometry.specs.declared.PixelFormat.{PixelFormat}
use Rattle.geometry.specs.declared.Block.{Block}
use Rattle.geometry.specs.Sizes.{across, up, total, blocks_before, blocks_of}
use Rattle.geometry.specs.Frame.{block, InFrame}
use Rattle.geometry.specs.Sample.{sample_at, sample_in}
use Rattle.ways.specs.Loops.{◌∈◌}
use Rattle.geometry.specs.Raster.{grid, raster}
use Rattle.geometry.proofs.Grids.{In, index, row_of, plane_of, grid_length, grid_at}
use Rattle.ways.specs.Raster.{each_sample}
use Rattle.ways.proofs.Members.{in_turn_law, of_turn}

-- ---- what stands in a grid
module _ (cols rows : ℕ → ℕ) {A : Type 0} (f : ℕ → ℕ → ℕ → A) where
  pub in_grid : (p x y : ℕ) → In cols rows p x y → f p x y ∈ grid cols rows f
  unfolding grid
  in_grid p x y o =
      in_turn_law (plane_of cols rows f) 3 (f p x y) p o.of_three
      (in_turn_law (row_of cols rows f p) (rows p) (f p x y) y o.row
      (in_turn_law (λ x. f p x y ∷ []) (cols p) (f p x y) x o.column (inl refl)))

  pub of_grid : (a : A) → a ∈ grid cols rows f → (p : ℕ) × (x : ℕ) × (y : ℕ) × In cols rows p x y × (a ≡ f p x y)
  unfolding grid
  of_grid a m =
      let t = of_turn (plane_of cols rows f) 3 a m in
      let u = of_turn (row_of cols rows f t.0) (rows t.0) a t.2 in
      let v = of_turn (λ x. f t.0 x u.0 ∷ []) (cols t.0) a u.2 in
      (t.0, v.0, u.0, record { of_three = t.1; column = v.1; row = u.1 }, one (f t.0 v.0 u.0) v.2)
    where
      one : (b : A) → (a ≡ b) ⊎ ⊥ → a ≡ b
      one b (inl e) = e
      one b (inr e) = absurd e

-- ---- the blocks of a frame
module _ (f : PixelFormat) (w h : ℕ) where
  abbrev as_in : (b : Block) → InFrame f w h b → In (across f w) (up f h) b.plane b.x b.y
  as_in b i = record { of_three = i.of_three; column = i.column; row = i.row }

  pub raster_inside : (b : Block) → b ∈ raster f w h → InFrame f w h b
  unfolding raster
  raster_inside b m =
      let t = of_grid (across f w) (up f h) block b m in
      subst (InFrame f w h) (sym t.4) (record { of_three = t.3.of_three; column = t.3.column; row = t.3.row })

  pub inside_raster : (b : Block) → InFrame f w h b → b ∈ raster f w h
  unfolding raster
  inside_raster b i = in_grid (across f w) (up f h) block b.plane b.x b.y (as_in b i)

-- ---- the samples
-- the samples of planes that have 64 to a block
sample_total : (a u : ℕ → ℕ) (n : ℕ) → total (λ p. 8 * u p * (8 * a p)) n ≡ 64 * total (λ p. u p * a p) n
unfolding total
sample_total a u zero = refl
sample_total a u (suc n) = let h = sample_total a u n in omega arith

-- a sample of the frame: column c and row r of block b
pub record Within (f : PixelFormat) (w h : ℕ) (b : Block) (c r : ℕ) : Type 0 where
  pub inside : InFrame f w h b
  pub column : c < 8
  pub row : r < 8

module _ (f : PixelFormat) (w h : ℕ) where
  abbrev cols : ℕ → ℕ
  cols p = 8 * across f w p

  abbrev rows : ℕ → ℕ
  rows p = 8 * up f h p

  pub samples_length : {A : Type 0} (g : Block → ℕ → ℕ → A) → length (each_sample f w h g) ≡ 64 * blocks_of f w h
  unfolding each_sample blocks_of
  samples_length g = grid_length cols rows (λ p col row. g (block p (col / 8) (row / 8)) (col % 8) (row % 8)) ∙ sample_total (across f w) (up f h) 3

  at_index : (b : Block) (c r : ℕ) → sample_at f w h b c r ≡ index cols rows b.plane (8 * b.x + c) (8 * b.y + r)
  unfolding sample_at sample_in blocks_before
  at_index b c r =
      ap (λ (n : ℕ). n + ((8 * b.y + r) * (8 * across f w b.plane) + (8 * b.x + c))) (sym (sample_total (across f w) (up f h) b.plane))

  -- what stands at a sample's address
  pub each_sample_at : {A : Type 0} (g : Block → ℕ → ℕ → A) (d : A) (b : Block) (c r : ℕ) → Within f w h b c r → get_or (each_sample f w h g) (sample_at f w h b c r) d ≡ g b c r
  unfolding each_sample
  each_sample_at g d b c r o =
      let hc = o.column in
      let hr = o.row in
      let hx = o.inside.column in
      let hy = o.inside.row in
      let e₁ : (8 * b.x + c) / 8 ≡ b.x = omega arith in
      let e₂ : (8 * b.y + r) / 8 ≡ b.y = omega arith in
      let e₃ : (8 * b.x + c) % 8 ≡ c = omega arith in
      let e₄ : (8 * b.y + r) % 8 ≡ r = omega arith in
      ap (λ (n : ℕ). get_or (each_sample f w h g) n d) (at_index b c r)
      ∙ grid_at cols rows (λ p col row. g (block p (col / 8) (row / 8)) (col % 8) (row % 8)) b.plane (8 * b.x + c) (8 * b.y + r) d
      (record { of_three = o.inside.of_three; column = omega arith; row = omega arith })
      ∙ (λ i. g (block b.plane (e₁ i) (e₂ i)) (e₃ i) (e₄ i))
