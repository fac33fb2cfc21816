-- "Macro blocks without a coded luma block": the four flags of macro block m in `lumaCoded` are those of its luma blocks. Assumes nothing.
use mathlib.Core.Path.{◌≡◌, sym, ap, ◌∙◌}
use mathlib.Core.Bool.{true}
use mathlib.Core.List.{List}
use mathlib.Core.Logic.{◌⊎◌, inl, inr, ◌↔◌}
use Prim.Native.Nat.{ℕ, zero, suc, ◌+◌, ◌*◌, ◌/◌, ◌%◌, ◌≤◌, ◌<◌}
use native.Mathlib.Nat.{mul-mul-mul_comm}
use native.Mathlib.Omega.{arith}
use borrow.Author.Tests.{lt-ltb, ltb-true}
use lib.ListN.{get_or}
use Rattle.geometry.specs.declared.PixelFormat.{PixelFormat}
use Rattle.geometry.specs.declared.Place.{Place}
use Rattle.geometry.specs.Sizes.{plane_blocks, macro_blocks_of}
use Rattle.geometry.specs.Order.{at, macro_walk, coded_macros}
use Rattle.geometry.specs.Frame.{block, frame_order}
use Rattle.geometry.specs.Macro.{macro_of}
use Rattle.geometry.specs.Rank.{rank_in}
use Rattle.geometry.proofs.Orders.{index_of}
use Rattle.geometry.proofs.PlaneOrders.{macro_order}
use Rattle.geometry.proofs.MacroLaws.{luma_macro}
use Rattle.bitstream.specs.Reading.{got}
use Rattle.modes.specs.Modes.{luma_coded, macro_modes}
use Rattle.modes.proofs.Sent.{four_coded}

-- block number i is a coded luma block of macro block number m
pub record CodedLuma (f : PixelFormat) (w h : ℕ) (flags : List ℕ) (m i : ℕ) : Type 0 where
  pub luma : i < plane_blocks f w h 0
  pub coded : 0 < get_or flags i 0
  pub of_macro : macro_of f (get_or (frame_order f w h) i (block 0 0 0)) ≡ get_or (coded_macros w h) m (at 0 0)

some_of : (a b c d : ℕ) → 0 < a + b + c + d → (0 < a) ⊎ ((0 < b) ⊎ ((0 < c) ⊎ (0 < d)))
some_of zero zero zero d h = inr (inr (inr (omega arith)))
some_of zero zero (suc c) d h = inr (inr (inl (omega arith)))
some_of zero (suc b) c d h = inr (inl (omega arith))
some_of (suc a) b c d h = inl (omega arith)

-- no macro block stands twice
macro_once : (w h i j : ℕ) → i < h * w → j < h * w → get_or (coded_macros w h) i (at 0 0) ≡ get_or (coded_macros w h) j (at 0 0) → i ≡ j
macro_once w h i j hi hj e =
    sym ((macro_order w h).back i hi).2 ∙ ap (λ (p : Place). index_of 2 (rank_in macro_walk) w h p.x p.y) e ∙ ((macro_order w h).back j hj).2

module _ (f : PixelFormat) (w h : ℕ) (flags : List ℕ) (m : ℕ) (hm : m < macro_blocks_of w h) where
  luma_is : (i : ℕ) → m * 4 ≤ i → i < m * 4 + 4 → 0 < get_or flags i 0 → CodedLuma f w h flags m i
  luma_is i l k g =
      let below : i < plane_blocks f w h 0 = omega (arith, mul-mul-mul_comm 2 h 2 w) in
      let z : i / 4 ≡ m = omega arith in
      record { luma = below; coded = g; of_macro = sym (luma_macro f w h i below).2 ∙ ap (λ (n : ℕ). get_or (coded_macros w h) n (at 0 0)) z }

  found : luma_coded flags m ≡ true → (i : ℕ) × CodedLuma f w h flags m i
  unfolding luma_coded
  found e = go (some_of (get_or flags (m * 4) 0) (get_or flags (m * 4 + 1) 0) (get_or flags (m * 4 + 2) 0) (get_or flags (m * 4 + 3) 0) (ltb-true 0 _ e))
    where
      go : (0 < get_or flags (m * 4) 0) ⊎ ((0 < get_or flags (m * 4 + 1) 0) ⊎ ((0 < get_or flags (m * 4 + 2) 0) ⊎ (0 < get_or flags (m * 4 + 3) 0))) → (i : ℕ) × CodedLuma f w h flags m i
      go (inl g) = (m * 4, luma_is (m * 4) (omega arith) (omega arith) g)
      go (inr (inl g)) = (m * 4 + 1, luma_is (m * 4 + 1) (omega arith) (omega arith) g)
      go (inr (inr (inl g))) = (m * 4 + 2, luma_is (m * 4 + 2) (omega arith) (omega arith) g)
      go (inr (inr (inr g))) = (m * 4 + 3, luma_is (m * 4 + 3) (omega arith) (omega arith) g)

  some_flag : (i j : ℕ) → j < 4 → i ≡ m * 4 + j → 0 < get_or flags i 0
      → 0 < get_or flags (m * 4) 0 + get_or flags (m * 4 + 1) 0 + get_or flags (m * 4 + 2) 0 + get_or flags (m * 4 + 3) 0
  some_flag i zero l e g = let z : i ≡ m * 4 = omega arith in omega (arith, ap (λ (n : ℕ). get_or flags n 0) z)
  some_flag i (suc zero) l e g = omega (arith, ap (λ (n : ℕ). get_or flags n 0) e)
  some_flag i (suc (suc zero)) l e g = omega (arith, ap (λ (n : ℕ). get_or flags n 0) e)
  some_flag i (suc (suc (suc zero))) l e g = omega (arith, ap (λ (n : ℕ). get_or flags n 0) e)
  some_flag i (suc (suc (suc (suc j)))) l e g = absurd (omega arith)

  -- a macro block counts as one with a coded luma block exactly where it has one
  pub luma_coded_law : (luma_coded flags m ≡ true) ↔ ((i : ℕ) × CodedLuma f w h flags m i)
  unfolding luma_coded
  luma_coded_law = (
    found,
    λ t.
        let i = t.0 in
        let k = luma_macro f w h i t.1.luma in
        let z : i / 4 ≡ m = macro_once w h (i / 4) m k.1 hm (k.2 ∙ t.1.of_macro) in
        lt-ltb 0 _ (some_flag i (i % 4) (omega arith) (omega arith) t.1.coded),
  )

  -- "There always is one in that mode": a macro block of mode 7, FOUR, has a coded luma block
  pub four_luma : (p : List ℕ) (i : ℕ) {modes : List ℕ} {e : ℕ} → macro_modes flags (macro_blocks_of w h) p i ≡ got modes e → get_or modes m 0 ≡ 7 → (j : ℕ) × CodedLuma f w h flags m j
  four_luma p i g four = found (four_coded flags (macro_blocks_of w h) p i g m hm four)
