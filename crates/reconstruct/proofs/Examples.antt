-- A worked example: a frame of one macro block, 4:2:0, whose six blocks are coded with no prediction and end at once. All matrices are 16 everywhere, and the first
-- coefficient of the first block is -1, all others 0. DC prediction carries the -1 over luma, where each residual is (-1·16 + 15)>>5 = -1.
-- Assumes nothing.
use mathlib.Core.Path.{◌≡◌, refl, sym, ap, ◌∙◌, subst}
use mathlib.Core.Bool.{true}
use mathlib.Core.List.{List, [], ◌∷◌}
use Prim.Native.Nat.{ℕ, zero, suc, ◌<◌}
use native.Mathlib.Omega.{arith}
use lib.IntN.{pos, negsuc}
use lib.ListN.{get_or, replicate}
use Rattle.numeric.specs.Cut.{cut, read16, mod16}
use Rattle.numeric.specs.Clamp.{clamp255}
use Rattle.geometry.specs.declared.PixelFormat.TheVariants.{Chroma420}
use Rattle.geometry.specs.Sizes.{total, blocks_of, blocks_before}
use Rattle.geometry.specs.Frame.{block}
use Rattle.geometry.specs.Raster.{raster_number}
use Rattle.block_record.specs.declared.Prediction.TheVariants.{None}
use Rattle.block_record.specs.declared.BlockRecord.{BlockRecord}
use Rattle.block_record.specs.Record.{InRange, uncoded, reference_of}
use Rattle.transform.specs.Residual.{dc_only, residual}
use Rattle.dc_neighbours.specs.Means.{mean_ldl_d, mean_ldr, mean_dl_ddr, mean_of_two, far, kept, replaced}
use Rattle.dc_neighbours.specs.Neighbours.{neighbour_at, neighbour_back, predicted as predicted_from}
use Rattle.dc_prediction.specs.Planes.{coded_step, block_step, row, plane, predicted_dc}
use Rattle.dc_neighbours.specs.Block.{prediction}
use Rattle.prediction.specs.Predicted.{predicted, summed}
use Rattle.ways.specs.Loops.{up_to}
use Rattle.reconstruct.specs.Picture.{Blocks, Matrices, rank_of, gathered, type_of, block_residual, dc_of, record_of, residual_of, sample_of}
use Rattle.reconstruct.specs.Lent.{CodedBlocks}
use Rattle.reconstruct.proofs.Facts.{coded_by}

one : BlockRecord
one = record { coded = true; qi_index = 0; prediction = None }

-- coded order: luma 0, 1, 3, 2 (the curve), Cb, Cr
frame : Blocks
frame = record { records = replicate 6 one; coded = 0 ∷ 1 ∷ 3 ∷ 2 ∷ 4 ∷ 5 ∷ []; coefs = negsuc 0 ∷ replicate 383 (pos 0); lasts = replicate 6 0 }

sixteen : Matrices
sixteen type plane index = replicate 64 16

ranks : (rank_of frame.coded 3 ≡ 2) × (rank_of frame.coded 2 ≡ 3)
unfolding frame rank_of
ranks = (refl, refl)

dcs : dc_of Chroma420 1 1 frame ≡ negsuc 0 ∷ negsuc 0 ∷ negsuc 0 ∷ negsuc 0 ∷ pos 0 ∷ pos 0 ∷ []
unfolding one frame dc_of gathered up_to blocks_of total predicted_dc plane row block_step coded_step prediction neighbour_back neighbour_at predicted_from replaced kept far mean_ldl_d mean_ldr mean_dl_ddr mean_of_two reference_of cut read16 mod16
dcs = refl

-- luma 127, chroma 128
samples : (sample_of Chroma420 1 1 frame sixteen [] [] (block 0 1 1) 5 2 ≡ 127) × (sample_of Chroma420 1 1 frame sixteen [] [] (block 2 0 0) 5 2 ≡ 128)
unfolding one frame sixteen rank_of sample_of residual_of record_of block_residual type_of summed predicted residual dc_only clamp255 raster_number blocks_before dc_of gathered up_to blocks_of total predicted_dc plane row block_step coded_step prediction neighbour_back neighbour_at predicted_from replaced kept far mean_ldl_d mean_ldr mean_dl_ddr mean_of_two reference_of cut read16 mod16
samples = (refl, refl)

-- such a list of coded blocks is what `reconstruct` asks for
six : (P : ℕ → Type 0) → P 0 → P 1 → P 2 → P 3 → P 4 → P 5 → (n : ℕ) → n < 6 → P n
six P p₀ p₁ p₂ p₃ p₄ p₅ zero h = p₀
six P p₀ p₁ p₂ p₃ p₄ p₅ (suc zero) h = p₁
six P p₀ p₁ p₂ p₃ p₄ p₅ (suc (suc zero)) h = p₂
six P p₀ p₁ p₂ p₃ p₄ p₅ (suc (suc (suc zero))) h = p₃
six P p₀ p₁ p₂ p₃ p₄ p₅ (suc (suc (suc (suc zero)))) h = p₄
six P p₀ p₁ p₂ p₃ p₄ p₅ (suc (suc (suc (suc (suc zero))))) h = p₅
six P p₀ p₁ p₂ p₃ p₄ p₅ (suc (suc (suc (suc (suc (suc n)))))) h = absurd (omega arith)

in_turn_law : List ℕ
in_turn_law = 0 ∷ 1 ∷ 3 ∷ 2 ∷ 4 ∷ 5 ∷ []

-- coded order there and back
back : (k : ℕ) → k < 6 → get_or in_turn_law (get_or in_turn_law k 0) 0 ≡ k
unfolding in_turn_law
back = six (λ k. get_or in_turn_law (get_or in_turn_law k 0) 0 ≡ k) refl refl refl refl refl refl

below : (k : ℕ) → k < 6 → get_or in_turn_law k 0 < 6
unfolding in_turn_law
below = six (λ k. get_or in_turn_law k 0 < 6) (omega arith) (omega arith) (omega arith) (omega arith) (omega arith) (omega arith)

plain : (n : ℕ) → n < 6 → get_or (replicate 6 one) n uncoded ≡ one
plain = six (λ n. get_or (replicate 6 one) n uncoded ≡ one) refl refl refl refl refl refl

lawful : CodedBlocks Chroma420 1 1 frame
unfolding in_turn_law frame one blocks_of total
lawful =
    coded_by Chroma420 1 1 frame
    (λ k h. let e = plain (get_or in_turn_law k 0) (below k h) in
    (below k h, ap (λ (r : BlockRecord). r.coded) e, subst InRange (sym e) (record { qi_index = omega arith; prediction = tt })))
    (λ n h c. (get_or in_turn_law n 0, below n h, back n h))
    (λ j k h l e. sym (back j h) ∙ ap (λ (n : ℕ). get_or in_turn_law n 0) e ∙ back k l)
