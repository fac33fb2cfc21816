-- The coded blocks written over previous, in coded order, and then filtered: the frame of the first way.
-- Assumes nothing.
use mathlib.Core.Path.{◌≡◌, refl, sym, ap, ◌∙◌, subst, fun_ext}
use mathlib.Core.Bool.{Bool, true, false, true≢false}
use mathlib.Core.List.{List, [], ◌∷◌, map}
use Prim.Native.Nat.{ℕ, zero, suc, ◌*◌, ◌<◌}
use native.Mathlib.Omega.{arith}
use lib.IntN.{ℤ}
use lib.ListN.{length, get_or, take}
use Rattle.geometry.specs.declared.PixelFormat.{PixelFormat}
use Rattle.geometry.specs.declared.Block.{Block}
use Rattle.geometry.specs.Sizes.{blocks_of}
use Rattle.geometry.specs.Raster.{raster_number, block_no}
use Rattle.geometry.proofs.RasterLaws.{raster_number_below, number_of_block}
use Rattle.block_record.specs.declared.BlockRecord.{BlockRecord}
use Rattle.block_record.specs.Packed.{unpacked}
use Rattle.block_record.specs.Record.{uncoded}
use Rattle.block_record.proofs.Laws.{unpacked_at}
use Rattle.loop_filter.specs.Filter.{filtered}
use Rattle.loop_filter.specs.Flags.{coded_at, coded_by}
use Rattle.ways.specs.Loops.{◌∈◌, over}
use Rattle.ways.specs.Ways.{Picture, filter_all, first_way, write_block}
use Rattle.ways.proofs.Corner.{write_at}
use Rattle.ways.proofs.Agree.{Coded, numbers_coded, any_order, ways_agree, nothing_coded}
use Rattle.reconstruct.specs.Picture.{Blocks, Matrices, record_of, sample_of, picture_of}
use Rattle.reconstruct.specs.Lent.{blocks_in, CodedBlocks, put_block}

-- a coded block has a record
flag_below : (rs : List BlockRecord) (n : ℕ) → (get_or rs n uncoded).coded ≡ true → n < length rs
flag_below [] n e = absurd (true≢false (sym e))
flag_below (r ∷ rs) zero e = omega arith
flag_below (r ∷ rs) (suc n) e = let l = flag_below rs n e in omega arith

module _ (f : PixelFormat) (w h : ℕ) (bs : Blocks) (matrix : Matrices) (L : ℕ) (golden previous : List ℕ) where
  abbrev pic : Picture
  pic = picture_of f w h bs matrix L golden previous

  coded_is : (b : Block) → pic.coded b ≡ (get_or bs.records (raster_number f w h b) uncoded).coded
  unfolding picture_of record_of
  coded_is b = λ i. (get_or bs.records (raster_number f w h b) uncoded).coded

  -- a block is written as the definition writes it
  put_is : (b : Block) (s : List ℕ) → put_block f w h (sample_of f w h bs matrix golden previous) b s ≡ write_block f w h pic b s
  unfolding picture_of
  put_is b s = sym (write_at f w h pic b s)

  -- the list has the coded blocks
  all_coded : CodedBlocks f w h bs → Coded f w h pic (map (block_no f w h) bs.coded)
  all_coded all =
      numbers_coded f w h pic bs.coded
      (λ n m. let l = all.in_frame n m in
      (l, coded_is (block_no f w h n) ∙ ap (λ (k : ℕ). (get_or bs.records k uncoded).coded) (number_of_block f w h n l).1 ∙ all.are_coded n m))
      (λ b k t. all.every (raster_number f w h b) (raster_number_below f w h b k) (sym (coded_is b) ∙ t))

  filtered_is : (s : List ℕ) → filter_all f w h pic.coded pic.filtered s ≡ filter_all f w h pic.coded (filtered L) s
  unfolding picture_of
  filtered_is s = λ i. filter_all f w h pic.coded (filtered L) s

  made : CodedBlocks f w h bs → length previous ≡ 64 * blocks_of f w h
      → filter_all f w h pic.coded (filtered L) (over (map (block_no f w h) bs.coded) (put_block f w h (sample_of f w h bs matrix golden previous)) previous)
      ≡ first_way f w h pic previous
  made all len =
      let e : put_block f w h (sample_of f w h bs matrix golden previous) ≡ write_block f w h pic = fun_ext (λ b. fun_ext (λ s. put_is b s)) in
      ap (λ (g : Block → List ℕ → List ℕ). filter_all f w h pic.coded (filtered L) (over (map (block_no f w h) bs.coded) g previous)) e
      ∙ sym (filtered_is (over (map (block_no f w h) bs.coded) (write_block f w h pic) previous))
      ∙ any_order f w h pic previous len (map (block_no f w h) bs.coded) (all_coded all)

  -- where no block is coded, previous is the frame
  pub unchanged : CodedBlocks f w h bs → bs.coded ≡ [] → length bs.records ≡ blocks_of f w h → length previous ≡ 64 * blocks_of f w h → first_way f w h pic previous ≡ previous
  unchanged all none long len = ways_agree f w h pic previous len ∙ nothing_coded f w h pic previous (λ b. coded_is b ∙ go (raster_number f w h b) _ refl)
    where
      go : (n : ℕ) (t : Bool) → (get_or bs.records n uncoded).coded ≡ t → t ≡ false
      go n false e = refl
      go n true e = let l = flag_below bs.records n e in absurd (subst (λ (ns : List ℕ). n ∈ ns) none (all.every n (omega arith) e))

-- with the records packed
flag_is : (records : List ℕ) (n : ℕ) → coded_at records n ≡ (get_or (map unpacked records) n uncoded).coded
unfolding coded_at unpacked
flag_is records n = sym (ap (λ (r : BlockRecord). r.coded) (unpacked_at records n))

module _ (f : PixelFormat) (w h : ℕ) (records coded : List ℕ) (count : ℕ) (coefs : List ℤ) (lasts : List ℕ) (matrix : Matrices) (L : ℕ) (golden previous : List ℕ) where
  flags_are : coded_by f w h records ≡ (picture_of f w h (blocks_in records coded count coefs lasts) matrix L golden previous).coded
  unfolding coded_by
  flags_are = fun_ext (λ b. flag_is records (raster_number f w h b) ∙ sym (coded_is f w h (blocks_in records coded count coefs lasts) matrix L golden previous b))

  pub whole : CodedBlocks f w h (blocks_in records coded count coefs lasts) → length previous ≡ 64 * blocks_of f w h
      → filter_all f w h (coded_by f w h records) (filtered L) (over (map (block_no f w h) (take count coded)) (put_block f w h (sample_of f w h (blocks_in records coded count coefs lasts) matrix golden previous)) previous)
      ≡ first_way f w h (picture_of f w h (blocks_in records coded count coefs lasts) matrix L golden previous) previous
  whole all len =
      ap (λ (c : Block → Bool). filter_all f w h c (filtered L) (over (map (block_no f w h) (take count coded)) (put_block f w h (sample_of f w h (blocks_in records coded count coefs lasts) matrix golden previous)) previous)) flags_are
      ∙ made f w h (blocks_in records coded count coefs lasts) matrix L golden previous all len
