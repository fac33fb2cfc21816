-- The blocks of each plane: no plane has more coded blocks than blocks, and the counts as the program comes to them. Assumes nothing.
use Prim.Native.Nat.{ℕ, suc, ◌+◌, ◌-◌, ◌/◌, ◌≤◌}
use native.Mathlib.Omega.{arith}
use native.Mathlib.Nat.{zero-add}
use mathlib.Core.Path.{◌≡◌, sym, ap, ◌∙◌}
use mathlib.Core.List.{List, [], ◌∷◌}
use Rattle.bitstream.specs.Lists.{tabulated, Once}
use Rattle.geometry.specs.declared.PixelFormat.{PixelFormat}
use Rattle.geometry.specs.declared.FrameSizes.{FrameSizes}
use Rattle.geometry.specs.Sizes.{plane_blocks, blocks_before, sizes_of}
use Rattle.geometry.proofs.SizeLaws.{before_luma, before_next, before_all}
use Rattle.counting.specs.declared.Counts.{Counts}
use Rattle.counting.specs.Counts.{count_within, coded_in, block_counts}
use Rattle.counting.proofs.Laws.{once_within}

between : {a b k n : ℕ} → a ≡ k → b ≡ k + n → b - a ≡ n
between x y = omega arith

module _ (f : PixelFormat) (w h : ℕ) (coded : List ℕ) where
  pub coded_few : Once coded → (p : ℕ) → coded_in f w h coded p ≤ plane_blocks f w h p
  coded_few once p =
      let n = before_next f w h p in
      omega (arith, once_within (blocks_before f w h p) (blocks_before f w h (suc p)) coded (omega arith) once)

  -- the first block of Cb, that of Cr and the number of all blocks, and the coded blocks of the three planes
  pub record Three (cb cr all first second third : ℕ) : Type 0 where
    pub cb_is : cb ≡ blocks_before f w h 1
    pub cr_is : cr ≡ blocks_before f w h 2
    pub all_is : all ≡ blocks_before f w h 3
    pub first_is : first ≡ coded_in f w h coded 0
    pub second_is : second ≡ coded_in f w h coded 1
    pub third_is : third ≡ coded_in f w h coded 2

  pub three : (s : FrameSizes) {first second third : ℕ} → s ≡ sizes_of f w h → first ≡ count_within 0 (s.cb.offset / 64) coded → second ≡ count_within (s.cb.offset / 64) (s.cr.offset / 64) coded
      → third ≡ count_within (s.cr.offset / 64) s.blocks coded → Three (s.cb.offset / 64) (s.cr.offset / 64) s.blocks first second third
  three s e a b c =
      let x : s.cb.offset / 64 ≡ blocks_before f w h 1 = ap (λ (s : FrameSizes). s.cb.offset / 64) e ∙ omega arith in
      let y : s.cr.offset / 64 ≡ blocks_before f w h 2 = ap (λ (s : FrameSizes). s.cr.offset / 64) e ∙ omega arith in
      let z : s.blocks ≡ blocks_before f w h 3 = ap (λ (s : FrameSizes). s.blocks) e ∙ sym (before_all f w h) in
      record {
        cb_is = x;
        cr_is = y;
        all_is = z;
        first_is = a ∙ (λ i. count_within (sym (before_luma f w h) i) (x i) coded);
        second_is = b ∙ (λ i. count_within (x i) (y i) coded);
        third_is = c ∙ (λ i. count_within (y i) (z i) coded);
      }

  module _ {cb cr all first second third : ℕ} (t : Three cb cr all first second third) where
    pub three_fit : Once coded → (first ≤ cb) × (cb ≤ cr) × (second ≤ cr - cb) × (cr ≤ all) × (third ≤ all - cr)
    three_fit once =
        let n0 = before_next f w h 0 in
        let n1 = before_next f w h 1 in
        let n2 = before_next f w h 2 in
        let b = before_luma f w h in
        let l0 = coded_few once 0 in
        let l1 = coded_few once 1 in
        let l2 = coded_few once 2 in (
          omega (arith, t.cb_is, t.first_is),
          omega (arith, t.cb_is, t.cr_is),
          omega (arith, t.cb_is, t.cr_is, t.second_is),
          omega (arith, t.cr_is, t.all_is),
          omega (arith, t.cr_is, t.all_is, t.third_is),
        )

    pub three_counts : (modes : List ℕ)
        → ◌≡◌ {A = Counts} (record { coded = first ∷ second ∷ third ∷ []; uncoded = (cb - first) ∷ (cr - cb - second) ∷ (all - cr - third) ∷ []; modes = modes }) (block_counts f w h coded modes)
    unfolding tabulated
    three_counts modes =
        let e0 : cb ≡ plane_blocks f w h 0 = t.cb_is ∙ before_next f w h 0 ∙ ap (λ (k : ℕ). k + plane_blocks f w h 0) (before_luma f w h) ∙ zero-add (plane_blocks f w h 0) in
        let e1 : cr - cb ≡ plane_blocks f w h 1 = between t.cb_is (t.cr_is ∙ before_next f w h 1) in
        let e2 : all - cr ≡ plane_blocks f w h 2 = between t.cr_is (t.all_is ∙ before_next f w h 2) in
        λ i. record { coded = t.first_is i ∷ t.second_is i ∷ t.third_is i ∷ []; uncoded = (e0 i - t.first_is i) ∷ (e1 i - t.second_is i) ∷ (e2 i - t.third_is i) ∷ []; modes = modes }
