-- The coded blocks by rank, the blocks by raster number, and the matrices of a slice.
-- Assumes nothing.
use mathlib.Core.Path.{◌≡◌, refl, sym, ap, ◌∙◌, subst}
use mathlib.Core.Bool.{Bool, true, false, cond}
use mathlib.Core.List.{List, [], ◌∷◌, map}
use mathlib.Core.Logic.{inl, inr}
use Prim.Native.Nat.{ℕ, zero, suc, ◌+◌, ◌-◌, ◌*◌, ◌≤◌, ◌<◌}
use native.Mathlib.Nat.{not-suc-le-zero}
use native.Mathlib.Omega.{arith}
use borrow.Author.Tests.{eq-eqb, eqb-true}
use lib.Dec.{eqb}
use lib.IntN.{ℤ, pos}
use lib.ListN.{length, get_or, set, take, drop, length-take, length-map, get_or-map}
use lib.Seq.{take_all, get_or-take, get_or-drop}
use Rattle.geometry.specs.declared.PixelFormat.{PixelFormat}
use Rattle.geometry.specs.declared.Block.{Block}
use Rattle.geometry.specs.Sizes.{blocks_of}
use Rattle.geometry.specs.Raster.{raster_number, block_no}
use Rattle.block_record.specs.Packed.{unpacked}
use Rattle.block_record.specs.Record.{InRange, uncoded}
use Rattle.block_record.proofs.Laws.{unpacked_at}
use Rattle.prediction.specs.Predicted.{summed}
use Rattle.ways.specs.Loops.{◌∈◌, up_to, over}
use Rattle.ways.proofs.Steps.{up_to_same, over_more}
use Rattle.geometry.proofs.RasterLaws.{number_of_block}
use Rattle.reconstruct.specs.Picture.{Blocks, Matrices, rank_of, gathered, block_residual, dc_of, record_of, residual_of, sample_of}
use Rattle.reconstruct.specs.Lent.{blocks_in, matrix_place, matrix_in, CodedBlocks}

-- ---- what stands at a place stands in the list
pub at_in : (ns : List ℕ) (k : ℕ) → k < length ns → get_or ns k 0 ∈ ns
at_in [] k h = absurd (not-suc-le-zero h)
at_in (n ∷ ns) zero h = inl refl
at_in (n ∷ ns) (suc k) h = inr (at_in ns k (omega arith))

pub in_at : (ns : List ℕ) (n : ℕ) → n ∈ ns → (k : ℕ) × (k < length ns) × (get_or ns k 0 ≡ n)
in_at [] n m = absurd m
in_at (x ∷ ns) n (inl e) = (0, omega arith, sym e)
in_at (x ∷ ns) n (inr m) = let t = in_at ns n m in (suc t.0, (let h = t.1 in omega arith), t.2)

-- the coded blocks, by rank
pub coded_by : (f : PixelFormat) (w h : ℕ) (bs : Blocks)
    → ((k : ℕ) → k < length bs.coded → (get_or bs.coded k 0 < blocks_of f w h) × ((get_or bs.records (get_or bs.coded k 0) uncoded).coded ≡ true) × InRange (get_or bs.records (get_or bs.coded k 0) uncoded))
    → ((n : ℕ) → n < blocks_of f w h → (get_or bs.records n uncoded).coded ≡ true → (k : ℕ) × (k < length bs.coded) × (get_or bs.coded k 0 ≡ n))
    → ((j k : ℕ) → j < length bs.coded → k < length bs.coded → get_or bs.coded j 0 ≡ get_or bs.coded k 0 → j ≡ k)
    → CodedBlocks f w h bs
coded_by f w h bs each all once = record {
  in_frame = λ n m. let t = in_at bs.coded n m in subst (λ (n : ℕ). n < blocks_of f w h) t.2 (each t.0 t.1).0;
  are_coded = λ n m. let t = in_at bs.coded n m in subst (λ (n : ℕ). (get_or bs.records n uncoded).coded ≡ true) t.2 (each t.0 t.1).1;
  in_range = λ n m. let t = in_at bs.coded n m in subst (λ (n : ℕ). InRange (get_or bs.records n uncoded)) t.2 (each t.0 t.1).2;
  every = λ n h c. let t = all n h c in subst (λ (n : ℕ). n ∈ bs.coded) t.2 (at_in bs.coded t.0 t.1);
  once = once;
}

-- ---- each number once: the rank of the one at place k is k
pub rank_at : (ns : List ℕ) (k : ℕ) → k < length ns → ((i j : ℕ) → i < length ns → j < length ns → get_or ns i 0 ≡ get_or ns j 0 → i ≡ j) → rank_of ns (get_or ns k 0) ≡ k
unfolding rank_of
rank_at [] k h once = absurd (not-suc-le-zero h)
rank_at (n ∷ ns) zero h once = rw (eq-eqb n n refl)
rank_at (n ∷ ns) (suc k) h once = go (eqb n (get_or ns k 0)) refl (rank_at ns k (omega arith) (λ i j p q e. let s = once (suc i) (suc j) (omega arith) (omega arith) e in omega arith))
  where
    go : (t : Bool) → eqb n (get_or ns k 0) ≡ t → rank_of ns (get_or ns k 0) ≡ k → cond t 0 (suc (rank_of ns (get_or ns k 0))) ≡ suc k
    go true t ih = absurd (let s = once 0 (suc k) (omega arith) h (eqb-true n (get_or ns k 0) t) in omega arith)
    go false t ih = ap suc ih

-- ---- the first count of a list
module _ (coded : List ℕ) (count : ℕ) (fits : count ≤ length coded) where
  pub count_is : length (take count coded) ≡ count
  count_is = length-take count coded ∙ omega arith

  pub first_at : (k : ℕ) → k < count → get_or (take count coded) k 0 ≡ get_or coded k 0
  first_at k h = get_or-take count coded k 0 h

  pub first_in : (k : ℕ) → k < count → get_or coded k 0 ∈ take count coded
  first_in k h = subst (λ (n : ℕ). n ∈ take count coded) (first_at k h) (at_in (take count coded) k (let e = count_is in omega arith))

  -- a turn of a loop over the things that a function makes of them
  pub first_turn : {A B : Type 0} (g : ℕ → B) (step : B → A → A) (a : A) (k : ℕ) → k < count
      → over (take (k + 1) (map g (take count coded))) step a ≡ step (g (get_or coded k 0)) (over (take k (map g (take count coded))) step a)
  first_turn {B = B} g step a k h =
      let l : k < length (map g (take count coded)) = let e = count_is in let m = length-map (take count coded) g in omega arith in
      over_more (map g (take count coded)) k (g 0) step a l
      ∙ ap (λ (b : B). step b (over (take k (map g (take count coded))) step a)) (get_or-map g (take count coded) k 0 ∙ ap g (first_at k h))

  pub all_turns : {B : Type 0} (g : ℕ → B) → take count (map g (take count coded)) ≡ map g (take count coded)
  all_turns g = take_all count (map g (take count coded)) (let e = count_is in let m = length-map (take count coded) g in omega arith)

  -- the DC of each, gathered
  pub gather_is : (coefs dc : List ℤ) → up_to count (λ k s. set s (get_or coded k 0) (get_or coefs (k * 64) (pos 0))) dc ≡ gathered (take count coded) coefs dc
  unfolding gathered
  gather_is coefs dc =
      up_to_same count (λ k s. set s (get_or coded k 0) (get_or coefs (k * 64) (pos 0))) (λ k s. set s (get_or (take count coded) k 0) (get_or coefs (k * 64) (pos 0)))
      (λ k h s. ap (λ (n : ℕ). set s n (get_or coefs (k * 64) (pos 0))) (sym (first_at k h))) dc
      ∙ ap (λ (m : ℕ). up_to m (λ k s. set s (get_or (take count coded) k 0) (get_or coefs (k * 64) (pos 0))) dc) (sym count_is)

-- ---- a matrix of the slice
module _ (ms : List ℕ) (type plane : ℕ) where
  pub matrix_first : get_or ms (matrix_place type plane 0) 0 ≡ get_or (matrix_in ms type plane 0) 0 0
  unfolding matrix_in
  matrix_first =
      let n = matrix_place type plane 0 in
      let e : n ≡ n + 0 = omega arith in
      sym (get_or-take 64 (drop n ms) 0 0 (omega arith) ∙ get_or-drop n ms 0 0 ∙ ap (λ (k : ℕ). get_or ms k 0) (sym e))

  pub matrix_part : (index at : ℕ) → at ≡ matrix_place type plane index → take (at + 64 - at) (drop at ms) ≡ matrix_in ms type plane index
  unfolding matrix_in
  matrix_part index at e =
      let s : at + 64 - at ≡ 64 = omega arith in
      λ i. take (s i) (drop (e i) ms)

-- ---- the samples of the block of rank k
module _ (f : PixelFormat) (w h : ℕ) where
  module _ (records coded : List ℕ) (count : ℕ) (coefs : List ℤ) (lasts : List ℕ) (fits : count ≤ length coded) (all : CodedBlocks f w h (blocks_in records coded count coefs lasts)) (k : ℕ) (l : k < count) where
    abbrev pub number : ℕ
    number = get_or coded k 0

    abbrev pub here : Block
    here = block_no f w h number

    pub number_below : number < blocks_of f w h
    number_below = all.in_frame number (first_in coded count fits k l)

    number_is : raster_number f w h here ≡ number
    number_is = (number_of_block f w h number number_below).1

    rank_is : rank_of (take count coded) (raster_number f w h here) ≡ k
    rank_is =
        ap (rank_of (take count coded)) (number_is ∙ sym (first_at coded count fits k l))
        ∙ rank_at (take count coded) k (let e = count_is coded count fits in omega arith) all.once

    record_is : get_or (map unpacked records) (raster_number f w h here) uncoded ≡ unpacked (get_or records number 0)
    record_is = ap (λ (n : ℕ). get_or (map unpacked records) n uncoded) number_is ∙ unpacked_at records number

    pub in_range : InRange (unpacked (get_or records number 0))
    in_range = subst InRange (unpacked_at records number) (all.in_range number (first_in coded count fits k l))

    pub coded_sample : (matrix : Matrices) (golden previous : List ℕ) (dc : List ℤ) → dc ≡ dc_of f w h (blocks_in records coded count coefs lasts)
        → summed f w h golden previous (block_residual matrix coefs k (get_or dc number (pos 0)) (get_or lasts k 0) (unpacked (get_or records number 0)) here.plane) (unpacked (get_or records number 0)).prediction here
        ≡ sample_of f w h (blocks_in records coded count coefs lasts) matrix golden previous here
    unfolding sample_of residual_of record_of
    coded_sample matrix golden previous dc e =
        let n = number_is in
        let r = rank_is in
        let u = record_is in
        sym (λ i. summed f w h golden previous (block_residual matrix coefs (r i) (get_or (sym e i) (n i) (pos 0)) (get_or lasts (r i) 0) (u i) here.plane) (u i).prediction here)
