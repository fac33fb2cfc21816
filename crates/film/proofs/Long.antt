-- A frame that is made is as long as the frame's blocks say. Assumes nothing.
use Prim.Native.Nat.{ℕ, zero, suc, ◌+◌, ◌*◌}
use mathlib.Core.Path.{◌≡◌, refl, ◌∙◌}
use mathlib.Core.Bool.{Bool, true, false}
use mathlib.Core.List.{List, [], ◌∷◌}
use lib.ListN.{length, get_or, set, length-set}
use Rattle.geometry.specs.declared.PixelFormat.{PixelFormat}
use Rattle.geometry.specs.declared.Block.{Block}
use Rattle.geometry.specs.Sizes.{blocks_of}
use Rattle.geometry.specs.Raster.{raster}
use Rattle.ways.specs.Loops.{up_to, over, when}
use Rattle.ways.specs.Ways.{Picture, across_edge, edge, edges_at, edges, filter_all, made, first_way}
use Rattle.ways.proofs.Where.{samples_length}

-- a step that keeps a list's length
abbrev Keeps : (List ℕ → List ℕ) → Type 0
Keeps step = (s : List ℕ) → length (step s) ≡ length s

up_to_keeps : (n : ℕ) (step : ℕ → List ℕ → List ℕ) → ((k : ℕ) → Keeps (step k)) → Keeps (up_to n step)
unfolding up_to
up_to_keeps zero step h s = refl
up_to_keeps (suc n) step h s = h n (up_to n step s) ∙ up_to_keeps n step h s

over_keeps : (bs : List Block) (step : Block → List ℕ → List ℕ) → ((b : Block) → Keeps (step b)) → Keeps (over bs step)
unfolding over
over_keeps [] step h s = refl
over_keeps (b ∷ bs) step h s = over_keeps bs step h (step b s) ∙ h b s

when_keeps : (b : Bool) (step : List ℕ → List ℕ) → Keeps step → Keeps (when b step)
when_keeps true step h s = h s
when_keeps false step h s = refl

module _ (filtered : ℕ → ℕ → ℕ → ℕ → ℕ × ℕ) where
  across_keeps : (at step : ℕ) → Keeps (across_edge filtered at step)
  unfolding across_edge
  across_keeps at step s =
      let q = filtered (get_or s at 0) (get_or s (at + step) 0) (get_or s (at + step * 2) 0) (get_or s (at + step * 3) 0) in
      length-set (set s (at + step) q.0) (at + step * 2) q.1 ∙ length-set s (at + step) q.0

  edge_keeps : (at along step : ℕ) → Keeps (edge filtered at along step)
  unfolding edge
  edge_keeps at along step = up_to_keeps 8 (λ k. across_edge filtered (at + k * along) step) (λ k. across_keeps (at + k * along) step)

  edges_at_keep : (corner row : ℕ) (left lower right upper : Bool) → Keeps (edges_at filtered corner row left lower right upper)
  unfolding edges_at
  edges_at_keep corner row left lower right upper s =
      when_keeps upper (edge filtered _ 1 row) (edge_keeps _ 1 row) _
      ∙ when_keeps right (edge filtered _ row 1) (edge_keeps _ row 1) _
      ∙ when_keeps lower (edge filtered _ 1 row) (edge_keeps _ 1 row) _
      ∙ when_keeps left (edge filtered _ row 1) (edge_keeps _ row 1) s

module _ (f : PixelFormat) (w h : ℕ) where
  edges_keep : (coded : Block → Bool) (filtered : ℕ → ℕ → ℕ → ℕ → ℕ × ℕ) (b : Block) → Keeps (edges f w h coded filtered b)
  unfolding edges
  edges_keep coded filtered b = edges_at_keep filtered _ _ _ _ _ _

  pub first_long : (pic : Picture) (previous : List ℕ) → length (first_way f w h pic previous) ≡ 64 * blocks_of f w h
  unfolding first_way filter_all
  first_long pic previous =
      over_keeps (raster f w h) (λ b. when (pic.coded b) (edges f w h pic.coded pic.filtered b))
      (λ b. when_keeps (pic.coded b) (edges f w h pic.coded pic.filtered b) (edges_keep pic.coded pic.filtered b)) _
      ∙ samples_length f w h (made f w h pic previous)
