-- What a picture depends on: the coded blocks' matrices, and each list by its elements alone, so that zeros behind a list change nothing.
-- Assumes nothing.
use mathlib.Core.Path.{◌≡◌, refl, sym, ap, ◌∙◌, fun_ext}
use mathlib.Core.Bool.{Bool, true, false, cond}
use mathlib.Core.List.{List, map}
use Prim.Native.Nat.{ℕ, zero, suc, ◌+◌, ◌*◌}
use native.Mathlib.Omega.{arith}
use lib.Dec.{ltb}
use lib.IntN.{ℤ, pos}
use lib.ListN.{length, get_or, set, replicate}
use lib.Seq.{ext_get_or}
use Rattle.geometry.specs.declared.PixelFormat.{PixelFormat}
use Rattle.geometry.specs.declared.Block.{Block}
use Rattle.geometry.specs.Sizes.{across, up, blocks_of}
use Rattle.geometry.specs.Frame.{InFrame}
use Rattle.geometry.specs.Raster.{raster_number}
use Rattle.geometry.specs.Sample.{sample_at}
use Rattle.geometry.proofs.SampleLaws.{sample_hit}
use Rattle.block_record.specs.declared.BlockRecord.{BlockRecord}
use Rattle.transform.specs.Block.{inverse}
use Rattle.zig_zag.specs.Values.{zig_zag, tabulated, dequantized, value_at, values}
use Rattle.transform.specs.Residual.{dc_only, rounded, residual}
use Rattle.dc_prediction.specs.Planes.{predicted_dc}
use Rattle.prediction.specs.Predicted.{summed}
use Rattle.loop_filter.specs.Filter.{filtered}
use Rattle.ways.specs.Loops.{up_to}
use Rattle.ways.specs.Raster.{each_sample}
use Rattle.ways.specs.Ways.{made, filter_all, first_way}
use Rattle.ways.proofs.Where.{Within, each_sample_at, samples_length}
use Rattle.reconstruct.specs.Picture.{Blocks, Matrices, rank_of, gathered, type_of, block_residual, dc_of, record_of, residual_of, sample_of, picture_of}

-- ---- a frame by the samples of its coded blocks
module _ (f : PixelFormat) (w h : ℕ) where
  -- a frame is its samples
  samples_same : (g k : Block → ℕ → ℕ → ℕ) → ((b : Block) (c r : ℕ) → Within f w h b c r → g b c r ≡ k b c r) → each_sample f w h g ≡ each_sample f w h k
  samples_same g k same =
      ext_get_or 0 (each_sample f w h g) (each_sample f w h k) (samples_length f w h g ∙ sym (samples_length f w h k))
      (λ i l.
      let t = sample_hit f w h i (let e = samples_length f w h g in omega arith) in
      let b = t.0.block in
      let c = t.0.column in
      let r = t.0.row in
      let o : Within f w h b c r = record { inside = t.1.in_frame; column = t.1.column; row = t.1.row } in
      ap (λ (n : ℕ). get_or (each_sample f w h g) n 0) (sym t.1.lies)
      ∙ each_sample_at f w h g 0 b c r o ∙ same b c r o ∙ sym (each_sample_at f w h k 0 b c r o)
      ∙ ap (λ (n : ℕ). get_or (each_sample f w h k) n 0) t.1.lies)

  -- pictures with the same flags and filter, and the same samples in coded blocks, make the same frame
  pub frame_same : (coded : Block → Bool) (filter : ℕ → ℕ → ℕ → ℕ → ℕ × ℕ) (g k : Block → ℕ → ℕ → ℕ) (previous : List ℕ)
      → ((b : Block) → InFrame f w h b → coded b ≡ true → (c r : ℕ) → g b c r ≡ k b c r)
      → first_way f w h (record { coded = coded; sample = g; filtered = filter }) previous ≡ first_way f w h (record { coded = coded; sample = k; filtered = filter }) previous
  unfolding first_way made
  frame_same coded filter g k previous same =
      ap (filter_all f w h coded filter)
      (samples_same (made f w h (record { coded = coded; sample = g; filtered = filter }) previous) (made f w h (record { coded = coded; sample = k; filtered = filter }) previous)
      (λ b c r o. go b c r o (coded b) refl))
    where
      go : (b : Block) (c r : ℕ) → Within f w h b c r → (t : Bool) → coded b ≡ t
          → cond t (g b c r) (get_or previous (sample_at f w h b c r) 0) ≡ cond t (k b c r) (get_or previous (sample_at f w h b c r) 0)
      go b c r o true e = same b o.inside e c r
      go b c r o false e = refl

  -- matrices that are the same for the coded blocks: a block takes those of its type and plane, for the first qi and its own
  pub matrices_same : (bs : Blocks) (M N : Matrices) (L : ℕ) (golden previous : List ℕ)
      → ((b : Block) → InFrame f w h b → (record_of f w h bs b).coded ≡ true
      → (M (type_of (record_of f w h bs b).prediction) b.plane 0 ≡ N (type_of (record_of f w h bs b).prediction) b.plane 0)
      × (M (type_of (record_of f w h bs b).prediction) b.plane (record_of f w h bs b).qi_index ≡ N (type_of (record_of f w h bs b).prediction) b.plane (record_of f w h bs b).qi_index))
      → first_way f w h (picture_of f w h bs M L golden previous) previous ≡ first_way f w h (picture_of f w h bs N L golden previous) previous
  unfolding picture_of sample_of residual_of block_residual
  matrices_same bs M N L golden previous same =
      frame_same (λ b. (record_of f w h bs b).coded) (filtered L) (sample_of f w h bs M golden previous) (sample_of f w h bs N golden previous) previous
      (λ b k t c r.
      let e = same b k t in
      let n = raster_number f w h b in
      let i = rank_of bs.coded n in
      λ j. summed f w h golden previous (residual bs.coefs (i * 64) (get_or (dc_of f w h bs) n (pos 0)) (get_or bs.lasts i 0) (get_or (e.0 j) 0 0) (e.1 j)) (record_of f w h bs b).prediction b c r)

-- ---- lists with the same elements
-- as lists with zeros behind them have
abbrev pub Alike : {A : Type 0} → A → List A → List A → Type 0
Alike d xs ys = (i : ℕ) → get_or xs i d ≡ get_or ys i d

module _ (xs ys : List ℤ) (same : Alike (pos 0) xs ys) where
  value_same : (at : ℕ) (dc : ℤ) (q : ℕ) (m : List ℕ) (i : ℕ) → value_at xs at dc q m i ≡ value_at ys at dc q m i
  value_same at dc q m zero = refl
  value_same at dc q m (suc i) = ap (λ (c : ℤ). dequantized c (get_or m (suc i) 0)) (same (at + get_or zig_zag (suc i) 0))

  residual_same : (at : ℕ) (dc : ℤ) (last q : ℕ) (m : List ℕ) → residual xs at dc last q m ≡ residual ys at dc last q m
  unfolding residual values
  residual_same at dc last q m =
      let e : value_at xs at dc q m ≡ value_at ys at dc q m = fun_ext (value_same at dc q m) in
      ap (λ (g : ℕ → ℤ). cond (ltb last 2) (replicate 64 (dc_only dc q)) (map rounded (inverse (tabulated g 0 64)))) e

  gathered_same : (coded : List ℕ) (dc : List ℤ) → gathered coded xs dc ≡ gathered coded ys dc
  unfolding gathered
  gathered_same coded dc =
      let first : ℕ → ℤ = λ k. get_or xs (k * 64) (pos 0) in
      let first' : ℕ → ℤ = λ k. get_or ys (k * 64) (pos 0) in
      let e : first ≡ first' = fun_ext (λ k. same (k * 64)) in
      ap (λ (g : ℕ → ℤ). up_to (length coded) (λ k dc. set dc (get_or coded k 0) (g k)) dc) e

module _ (f : PixelFormat) (w h : ℕ) (records : List BlockRecord) (coded : List ℕ) where
  abbrev with_lists : List ℤ → List ℕ → Blocks
  with_lists coefs lasts = record { records = records; coded = coded; coefs = coefs; lasts = lasts }

  pub lists_same : (coefs coefs' : List ℤ) (lasts lasts' : List ℕ) → Alike (pos 0) coefs coefs' → Alike 0 lasts lasts'
      → (M : Matrices) (L : ℕ) (golden previous : List ℕ)
      → picture_of f w h (with_lists coefs lasts) M L golden previous ≡ picture_of f w h (with_lists coefs' lasts') M L golden previous
  unfolding picture_of sample_of residual_of block_residual dc_of record_of
  lists_same coefs coefs' lasts lasts' ec el M L golden previous =
      let d : dc_of f w h (with_lists coefs lasts) ≡ dc_of f w h (with_lists coefs' lasts') =
      ap (predicted_dc records (across f w 0) (up f h 0) (across f w 1) (up f h 1)) (gathered_same coefs coefs' ec coded (replicate (blocks_of f w h) (pos 0))) in
      let e : residual_of f w h (with_lists coefs lasts) M ≡ residual_of f w h (with_lists coefs' lasts') M =
      fun_ext (λ b.
      let n = raster_number f w h b in
      let k = rank_of coded n in
      let r = record_of f w h (with_lists coefs lasts) b in
      let m = M (type_of r.prediction) b.plane in
      (λ i. residual coefs (k * 64) (get_or (d i) n (pos 0)) (el k i) (get_or (m 0) 0 0) (m r.qi_index))
      ∙ residual_same coefs coefs' ec (k * 64) (get_or (dc_of f w h (with_lists coefs' lasts')) n (pos 0)) (get_or lasts' k 0) (get_or (m 0) 0 0) (m r.qi_index)) in
      λ i. record {
        coded = λ b. (record_of f w h (with_lists coefs lasts) b).coded;
        sample = λ b. summed f w h golden previous (e i b) (record_of f w h (with_lists coefs lasts) b).prediction b;
        filtered = filtered L;
      }
