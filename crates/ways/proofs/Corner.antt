-- Addresses from a block's corner, its lowest left sample: its own samples, and those of its neighbours that an edge reaches. Writing a block from its corner is the definition's write.
-- Assumes nothing.
use mathlib.Core.Path.{◌≡◌, sym, ap, ◌∙◌}
use mathlib.Core.List.{List}
use Prim.Native.Nat.{ℕ, suc, ◌+◌, ◌*◌, ◌-◌, ◌<◌}
use native.Mathlib.Omega.{arith}
use lib.ListN.{set}
use Rattle.geometry.specs.declared.PixelFormat.{PixelFormat}
use Rattle.geometry.specs.declared.Block.{Block}
use Rattle.geometry.specs.Sizes.{across}
use Rattle.geometry.specs.Frame.{block}
use Rattle.geometry.specs.Sample.{sample_at, sample_in}
use Rattle.ways.specs.Loops.{up_to}
use Rattle.ways.specs.Ways.{Picture, left_of, right_of, below, above, write_block}
use Rattle.ways.specs.Corner.{row_at, block_at}
use Rattle.ways.proofs.Steps.{up_to_same}

module _ (f : PixelFormat) (w h : ℕ) (b : Block) where
  abbrev pub corner : ℕ
  corner = sample_at f w h b 0 0

  abbrev pub row : ℕ
  row = 8 * across f w b.plane

  pub from_corner : (c r : ℕ) → sample_at f w h b c r ≡ corner + r * row + c
  unfolding sample_at sample_in
  from_corner c r = omega arith

  -- ---- what the left edge changes: the last column of the left neighbour, and the first of the block; and so for the others
  pub left_outer : (k : ℕ) → 0 < b.x → sample_at f w h (left_of b) 7 k ≡ corner - 2 + k * row + 1
  unfolding sample_at sample_in
  left_outer k l = omega arith

  pub left_inner : (k : ℕ) → 0 < b.x → sample_at f w h b 0 k ≡ corner - 2 + k * row + 2
  unfolding sample_at sample_in
  left_inner k l = omega arith

  pub right_inner : (k : ℕ) → sample_at f w h b 7 k ≡ corner + 6 + k * row + 1
  unfolding sample_at sample_in
  right_inner k = omega arith

  pub right_outer : (k : ℕ) → sample_at f w h (right_of b) 0 k ≡ corner + 6 + k * row + 2
  unfolding sample_at sample_in
  right_outer k = omega arith

  pub lower_outer : (k : ℕ) → 0 < b.y → sample_at f w h (below b) k 7 ≡ corner - 2 * row + k * 1 + row
  unfolding sample_at sample_in
  lower_outer k l = go (b.y - 1) (omega arith)
    where
      -- over n, for omega multiplies out no difference
      go : (n : ℕ) → b.y ≡ suc n → sample_at f w h (block b.plane b.x n) k 7 ≡ corner - 2 * row + k * 1 + row
      go n e = sym (ap (λ (y : ℕ). sample_at f w h (block b.plane b.x y) 0 0 - 2 * row + k * 1 + row) e ∙ omega arith)

  pub lower_inner : (k : ℕ) → 0 < b.y → sample_at f w h b k 0 ≡ corner - 2 * row + k * 1 + row * 2
  unfolding sample_at sample_in
  lower_inner k l = go (b.y - 1) (omega arith)
    where
      go : (n : ℕ) → b.y ≡ suc n → sample_at f w h b k 0 ≡ corner - 2 * row + k * 1 + row * 2
      go n e =
          let at : ℕ → ℕ → ℕ = λ y c. sample_at f w h (block b.plane b.x y) c 0 in
          ap (λ (y : ℕ). at y k) e ∙ sym (ap (λ (y : ℕ). at y 0 - 2 * row + k * 1 + row * 2) e ∙ omega arith)

  pub upper_inner : (k : ℕ) → sample_at f w h b k 7 ≡ corner + 6 * row + k * 1 + row
  unfolding sample_at sample_in
  upper_inner k = omega arith

  pub upper_outer : (k : ℕ) → sample_at f w h (above b) k 0 ≡ corner + 6 * row + k * 1 + row * 2
  unfolding sample_at sample_in
  upper_outer k = omega arith

pub write_at : (f : PixelFormat) (w h : ℕ) (pic : Picture) (b : Block) (s : List ℕ)
    → write_block f w h pic b s ≡ block_at (pic.sample b) (corner f w h b) (row f w h b) s
unfolding write_block block_at row_at
write_at f w h pic b =
    up_to_same 8 (λ r. up_to 8 (λ c s. set s (sample_at f w h b c r) (pic.sample b c r))) (λ r. up_to 8 (λ c s. set s (corner f w h b + r * row f w h b + c) (pic.sample b c r)))
    (λ r l. up_to_same 8 (λ c s. set s (sample_at f w h b c r) (pic.sample b c r)) (λ c s. set s (corner f w h b + r * row f w h b + c) (pic.sample b c r))
    (λ c m s. ap (λ (i : ℕ). set s i (pic.sample b c r)) (from_corner f w h b c r)))
