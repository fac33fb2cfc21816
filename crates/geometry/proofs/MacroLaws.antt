-- Which blocks belong to a macro block: block b is in the list of (x, y) exactly where (x, y) is its macro block.
use mathlib.Core.Path.{◌≡◌, refl, sym, ap, ◌∙◌, subst}
use mathlib.Core.Logic.{⊎_elim, ◌↔◌}
use mathlib.Core.List.Memᴰ
use mathlib.Core.List.{List, [], ◌∷◌, ◌++◌, Memᴰ}
use Prim.Native.Nat.{ℕ, zero, suc, ◌+◌, ◌-◌, ◌*◌, ◌/◌, ◌%◌, ◌≤◌, ◌<◌}
use native.Mathlib.Nat.{add-zero, le_of_suc-le-suc, not-suc-le-zero}
use native.Mathlib.Omega.{arith}
use lib.ListN.{length, get_or}
use Rattle.geometry.specs.declared.PixelFormat.{PixelFormat}
use Rattle.geometry.specs.declared.PixelFormat.TheVariants.{Chroma420, Chroma422, Chroma444}
use Rattle.geometry.specs.declared.Place.{Place}
use Rattle.geometry.specs.declared.Block.{Block}
use Rattle.geometry.specs.Sizes.{across, up, plane_blocks, blocks_before, macro_blocks_of, blocks_each}
use Rattle.geometry.specs.Order.{at, block_order, coded_macros}
use Rattle.geometry.specs.Frame.{block, InFrame, frame_order}
use Rattle.geometry.specs.Macro.{four_of, chroma_of, blocks_of_macro, macro_of_chroma, macro_in, macro_of}
use Rattle.geometry.proofs.SizeLaws.{before_luma}
use Rattle.geometry.proofs.FrameLaws.{frame_at}
use Rattle.geometry.proofs.LumaMacros.{macro_of_law}

pub macro_length : (f : PixelFormat) (x y : ℕ) → length (blocks_of_macro f x y) ≡ blocks_each f
unfolding blocks_of_macro four_of chroma_of
macro_length Chroma420 x y = refl
macro_length Chroma422 x y = refl
macro_length Chroma444 x y = refl

-- ---- block k of the list, as a program comes to it
pub four_at : (p x y j : ℕ) → j < 4 → block p (2 * x + j % 2) (2 * y + j / 2) ≡ get_or (four_of p x y) j (block 0 0 0)
unfolding four_of
four_at p x y zero l = λ i. block p (add-zero (2 * x) i) (add-zero (2 * y) i)
four_at p x y (suc zero) l = λ i. block p (2 * x + 1) (add-zero (2 * y) i)
four_at p x y (suc (suc zero)) l = λ i. block p (add-zero (2 * x) i) (2 * y + 1)
four_at p x y (suc (suc (suc zero))) l = refl
four_at p x y (suc (suc (suc (suc j)))) l = absurd (omega arith)

pub luma_at : (f : PixelFormat) (x y k : ℕ) → k < 4 → get_or (four_of 0 x y) k (block 0 0 0) ≡ get_or (blocks_of_macro f x y) k (block 0 0 0)
unfolding blocks_of_macro four_of
luma_at f x y zero l = refl
luma_at f x y (suc zero) l = refl
luma_at f x y (suc (suc zero)) l = refl
luma_at f x y (suc (suc (suc zero))) l = refl
luma_at f x y (suc (suc (suc (suc k)))) l = absurd (omega arith)

at_420 : (x y j : ℕ) → j < 2 → block (4 + j - 3) x y ≡ get_or (blocks_of_macro Chroma420 x y) (4 + j) (block 0 0 0)
unfolding blocks_of_macro four_of chroma_of
at_420 x y zero l = refl
at_420 x y (suc zero) l = refl
at_420 x y (suc (suc j)) l = absurd (omega arith)

at_422 : (x y j : ℕ) → j < 4 → block ((4 + j) / 2 - 1) x (2 * y + (4 + j) % 2) ≡ get_or (blocks_of_macro Chroma422 x y) (4 + j) (block 0 0 0)
unfolding blocks_of_macro four_of chroma_of
at_422 x y zero l = λ i. block 1 x (add-zero (2 * y) i)
at_422 x y (suc zero) l = refl
at_422 x y (suc (suc zero)) l = λ i. block 2 x (add-zero (2 * y) i)
at_422 x y (suc (suc (suc zero))) l = refl
at_422 x y (suc (suc (suc (suc j)))) l = absurd (omega arith)

at_444 : (x y j : ℕ) → j < 8 → get_or (four_of ((4 + j) / 4) x y) ((4 + j) % 4) (block 0 0 0) ≡ get_or (blocks_of_macro Chroma444 x y) (4 + j) (block 0 0 0)
unfolding blocks_of_macro four_of chroma_of
at_444 x y zero l = refl
at_444 x y (suc zero) l = refl
at_444 x y (suc (suc zero)) l = refl
at_444 x y (suc (suc (suc zero))) l = refl
at_444 x y (suc (suc (suc (suc zero)))) l = refl
at_444 x y (suc (suc (suc (suc (suc zero))))) l = refl
at_444 x y (suc (suc (suc (suc (suc (suc zero)))))) l = refl
at_444 x y (suc (suc (suc (suc (suc (suc (suc zero))))))) l = refl
at_444 x y (suc (suc (suc (suc (suc (suc (suc (suc j)))))))) l = absurd (omega arith)

module _ (f : PixelFormat) (x y k : ℕ) (hl : 4 ≤ k) (hk : k < blocks_each f) where
  from_four : 4 + (k - 4) ≡ k
  from_four = omega arith

  pub chroma_420 : f ≡ Chroma420 → block (k - 3) x y ≡ get_or (blocks_of_macro f x y) k (block 0 0 0)
  chroma_420 e =
      let n = ap blocks_each e in
      rw e (subst (λ (i : ℕ). block (i - 3) x y ≡ get_or (blocks_of_macro Chroma420 x y) i (block 0 0 0)) from_four (at_420 x y (k - 4) (omega arith)))

  pub chroma_422 : f ≡ Chroma422 → block (k / 2 - 1) x (2 * y + k % 2) ≡ get_or (blocks_of_macro f x y) k (block 0 0 0)
  chroma_422 e =
      let n = ap blocks_each e in
      rw e (subst (λ (i : ℕ). block (i / 2 - 1) x (2 * y + i % 2) ≡ get_or (blocks_of_macro Chroma422 x y) i (block 0 0 0)) from_four (at_422 x y (k - 4) (omega arith)))

  pub chroma_444 : f ≡ Chroma444 → get_or (four_of (k / 4) x y) (k % 4) (block 0 0 0) ≡ get_or (blocks_of_macro f x y) k (block 0 0 0)
  chroma_444 e =
      let n = ap blocks_each e in
      rw e (subst (λ (i : ℕ). get_or (four_of (i / 4) x y) (i % 4) (block 0 0 0) ≡ get_or (blocks_of_macro Chroma444 x y) i (block 0 0 0)) from_four (at_444 x y (k - 4) (omega arith)))

-- ---- the macro block of a block
pub macro_in_luma : (f : PixelFormat) (p x y : ℕ) → p ≡ 0 → at (x / 2) (y / 2) ≡ macro_in f p x y
macro_in_luma f zero x y e = refl
macro_in_luma f (suc p) x y e = absurd (omega arith)

pub macro_in_chroma : (f : PixelFormat) (p x y : ℕ) → (p ≡ 0 → ⊥) → macro_of_chroma f x y ≡ macro_in f p x y
macro_in_chroma f zero x y n = absurd (n refl)
macro_in_chroma f (suc p) x y n = refl

-- what is in a list has the list's macro block
module _ (p x y : ℕ) (b : Block) where
  abbrev InFour : Type 0
  InFour = (b.plane ≡ p) × (b.x / 2 ≡ x) × (b.y / 2 ≡ y)

  is_four : (m n : ℕ) → b ≡ block p m n → m / 2 ≡ x → n / 2 ≡ y → InFour
  is_four m n e ex ey = (ap (λ (q : Block). q.plane) e, ap (λ (q : Block). q.x / 2) e ∙ ex, ap (λ (q : Block). q.y / 2) e ∙ ey)

  in_four : Memᴰ b (four_of p x y) → InFour
  unfolding four_of
  in_four d =
      ⊎_elim (λ e. is_four (2 * x) (2 * y) e (omega arith) (omega arith))
      (λ d. ⊎_elim (λ e. is_four (2 * x + 1) (2 * y) e (omega arith) (omega arith))
      (λ d. ⊎_elim (λ e. is_four (2 * x) (2 * y + 1) e (omega arith) (omega arith))
      (λ d. ⊎_elim (λ e. is_four (2 * x + 1) (2 * y + 1) e (omega arith) (omega arith)) (λ d. absurd (Memᴰ.not-nil d)) (Memᴰ.cases_cons d))
      (Memᴰ.cases_cons d))
      (Memᴰ.cases_cons d))
      (Memᴰ.cases_cons d)

in_chroma : (f : PixelFormat) (p x y : ℕ) (b : Block) → Memᴰ b (chroma_of f p x y) → (b.plane ≡ p) × (macro_of_chroma f b.x b.y ≡ at x y)
unfolding chroma_of
in_chroma Chroma420 p x y b d =
    ⊎_elim (λ e. (ap (λ (q : Block). q.plane) e, ap (λ (q : Block). at q.x q.y) e)) (λ d. absurd (Memᴰ.not-nil d)) (Memᴰ.cases_cons d)
in_chroma Chroma422 p x y b d =
    let lower : 2 * y / 2 ≡ y = omega arith in
    let upper : (2 * y + 1) / 2 ≡ y = omega arith in
    ⊎_elim (λ e. (ap (λ (q : Block). q.plane) e, ap (λ (q : Block). at q.x (q.y / 2)) e ∙ ap (at x) lower))
    (λ d. ⊎_elim (λ e. (ap (λ (q : Block). q.plane) e, ap (λ (q : Block). at q.x (q.y / 2)) e ∙ ap (at x) upper)) (λ d. absurd (Memᴰ.not-nil d)) (Memᴰ.cases_cons d))
    (Memᴰ.cases_cons d)
in_chroma Chroma444 p x y b d = let r = in_four p x y b d in (r.0, λ i. at (r.1 i) (r.2 i))

-- and what has the list's macro block is in it
four_in : (p x y : ℕ) → Memᴰ (block p x y) (four_of p (x / 2) (y / 2))
unfolding four_of
four_in p x y = go (x % 2) (y % 2) refl refl (omega arith) (omega arith)
  where
    go : (m n : ℕ) → x % 2 ≡ m → y % 2 ≡ n → m < 2 → n < 2 → Memᴰ (block p x y) (four_of p (x / 2) (y / 2))
    go zero zero e d h l =
        let ex : x ≡ 2 * (x / 2) = omega arith in
        let ey : y ≡ 2 * (y / 2) = omega arith in
        Memᴰ.head (λ i. block p (ex i) (ey i))
    go (suc zero) zero e d h l =
        let ex : x ≡ 2 * (x / 2) + 1 = omega arith in
        let ey : y ≡ 2 * (y / 2) = omega arith in
        Memᴰ.tail (Memᴰ.head (λ i. block p (ex i) (ey i)))
    go zero (suc zero) e d h l =
        let ex : x ≡ 2 * (x / 2) = omega arith in
        let ey : y ≡ 2 * (y / 2) + 1 = omega arith in
        Memᴰ.tail (Memᴰ.tail (Memᴰ.head (λ i. block p (ex i) (ey i))))
    go (suc zero) (suc zero) e d h l =
        let ex : x ≡ 2 * (x / 2) + 1 = omega arith in
        let ey : y ≡ 2 * (y / 2) + 1 = omega arith in
        Memᴰ.tail (Memᴰ.tail (Memᴰ.tail (Memᴰ.head (λ i. block p (ex i) (ey i)))))
    go (suc (suc m)) n e d h l = absurd (omega arith)
    go zero (suc (suc n)) e d h l = absurd (omega arith)
    go (suc zero) (suc (suc n)) e d h l = absurd (omega arith)

chroma_in : (f : PixelFormat) (p x y : ℕ) → Memᴰ (block p x y) (chroma_of f p (macro_of_chroma f x y).x (macro_of_chroma f x y).y)
unfolding chroma_of
chroma_in Chroma420 p x y = Memᴰ.head refl
chroma_in Chroma422 p x y = go (y % 2) refl (omega arith)
  where
    go : (n : ℕ) → y % 2 ≡ n → n < 2 → Memᴰ (block p x y) (block p x (2 * (y / 2)) ∷ block p x (2 * (y / 2) + 1) ∷ [])
    go zero d l = let ey : y ≡ 2 * (y / 2) = omega arith in Memᴰ.head (ap (block p x) ey)
    go (suc zero) d l = let ey : y ≡ 2 * (y / 2) + 1 = omega arith in Memᴰ.tail (Memᴰ.head (ap (block p x) ey))
    go (suc (suc n)) d l = absurd (omega arith)
chroma_in Chroma444 p x y = four_in p x y

module _ (f : PixelFormat) where
  -- a block is in the list of its macro block
  pub in_its_macro : (b : Block) → b.plane < 3 → Memᴰ b (blocks_of_macro f (macro_of f b).x (macro_of f b).y)
  unfolding blocks_of_macro macro_of
  in_its_macro b l = go b.plane l
    where
      go : (p : ℕ) → p < 3 → let m = macro_in f p b.x b.y in
          Memᴰ (block p b.x b.y) (four_of 0 m.x m.y ++ (chroma_of f 1 m.x m.y ++ chroma_of f 2 m.x m.y))
      go zero l = Memᴰ.append_left (chroma_of f 1 (b.x / 2) (b.y / 2) ++ chroma_of f 2 (b.x / 2) (b.y / 2)) (four_in 0 b.x b.y)
      go (suc zero) l =
          let c = macro_of_chroma f b.x b.y in
          Memᴰ.append_right (four_of 0 c.x c.y) (Memᴰ.append_left (chroma_of f 2 c.x c.y) (chroma_in f 1 b.x b.y))
      go (suc (suc zero)) l =
          let c = macro_of_chroma f b.x b.y in
          Memᴰ.append_right (four_of 0 c.x c.y) (Memᴰ.append_right (chroma_of f 1 c.x c.y) (chroma_in f 2 b.x b.y))
      go (suc (suc (suc p))) l = absurd (omega arith)

  module _ (x y : ℕ) (b : Block) where
    of_luma : Memᴰ b (four_of 0 x y) → (b.plane < 3) × (macro_of f b ≡ at x y)
    unfolding macro_of
    of_luma d =
        let r = in_four 0 x y b d in
        (omega (arith, r.0), sym (macro_in_luma f b.plane b.x b.y r.0) ∙ (λ i. at (r.1 i) (r.2 i)))

    of_chroma : (p : ℕ) → 0 < p → p < 3 → Memᴰ b (chroma_of f p x y) → (b.plane < 3) × (macro_of f b ≡ at x y)
    unfolding macro_of
    of_chroma p hp hl d =
        let r = in_chroma f p x y b d in
        (omega (arith, r.0), sym (macro_in_chroma f b.plane b.x b.y (λ z. omega (arith, r.0, z))) ∙ r.1)

    -- what is in the list of (x, y) has the macro block (x, y)
    pub macro_of_member : Memᴰ b (blocks_of_macro f x y) → (b.plane < 3) × (macro_of f b ≡ at x y)
    unfolding blocks_of_macro
    macro_of_member d =
        ⊎_elim of_luma
        (λ d. ⊎_elim (of_chroma 1 (omega arith) (omega arith)) (of_chroma 2 (omega arith) (omega arith)) (Memᴰ.append_cases (chroma_of f 1 x y) d))
        (Memᴰ.append_cases (four_of 0 x y) d)

    -- so it is in the list of exactly that macro block
    pub in_macro : b.plane < 3 → Memᴰ b (blocks_of_macro f x y) ↔ (macro_of f b ≡ at x y)
    in_macro l = (λ d. (macro_of_member d).1, λ e. subst (λ (q : Place). Memᴰ b (blocks_of_macro f q.x q.y)) e (in_its_macro b l))

pub frame_of_macro : (f : PixelFormat) (w h : ℕ) (b : Block) → b.plane < 3 → (macro_of f b).x < w → (macro_of f b).y < h → InFrame f w h b
unfolding macro_of
frame_of_macro f w h b l hx hy = let r = go f b.plane hx hy in record { of_three = l; column = r.0; row = r.1 }
  where
    go : (f : PixelFormat) (p : ℕ) → (macro_in f p b.x b.y).x < w → (macro_in f p b.x b.y).y < h → (b.x < across f w p) × (b.y < up f h p)
    go f zero hx hy = (omega arith, omega arith)
    go Chroma420 (suc p) hx hy = (hx, hy)
    go Chroma422 (suc p) hx hy = (hx, omega arith)
    go Chroma444 (suc p) hx hy = (omega arith, omega arith)

-- block k of the list of (x, y): in the frame, and (x, y) is its macro block
element : (l : List Block) (k : ℕ) → k < length l → Memᴰ (get_or l k (block 0 0 0)) l
element [] k h = absurd (not-suc-le-zero h)
element (b ∷ bs) zero h = Memᴰ.head refl
element (b ∷ bs) (suc k) h = Memᴰ.tail (element bs k (le_of_suc-le-suc h))

module _ (f : PixelFormat) (w h x y k : ℕ) (hx : x < w) (hy : y < h) (hk : k < blocks_each f) where
  pub macro_of_element : ((get_or (blocks_of_macro f x y) k (block 0 0 0)).plane < 3) × (macro_of f (get_or (blocks_of_macro f x y) k (block 0 0 0)) ≡ at x y)
  macro_of_element = macro_of_member f x y (get_or (blocks_of_macro f x y) k (block 0 0 0)) (element (blocks_of_macro f x y) k (omega (arith, macro_length f x y)))

  pub element_in_frame : InFrame f w h (get_or (blocks_of_macro f x y) k (block 0 0 0))
  element_in_frame =
      let b = get_or (blocks_of_macro f x y) k (block 0 0 0) in
      let m = macro_of_element in
      let ex = ap (λ (q : Place). q.x) m.1 in
      let ey = ap (λ (q : Place). q.y) m.1 in
      frame_of_macro f w h b m.0 (omega arith) (omega arith)

-- luma block number i belongs to macro block number i / 4
pub luma_macro : (f : PixelFormat) (w h i : ℕ) → i < plane_blocks f w h 0 → let b = get_or (frame_order f w h) i (block 0 0 0) in
    (b.plane ≡ 0) × (i / 4 < macro_blocks_of w h) × (get_or (coded_macros w h) (i / 4) (at 0 0) ≡ macro_of f b)
unfolding macro_of
luma_macro f w h i hi =
    let q = get_or (block_order (2 * w) (2 * h)) i (at 0 0) in
    let z : blocks_before f w h 0 + i ≡ i = omega (arith, before_luma f w h) in
    let e : get_or (frame_order f w h) i (block 0 0 0) ≡ block 0 q.x q.y =
    ap (λ (k : ℕ). get_or (frame_order f w h) k (block 0 0 0)) (sym z) ∙ (frame_at f w h 0 i (omega arith) hi).1 in
    let m = macro_of_law w h i hi in
    (ap (λ (b : Block). b.plane) e, m.0, m.1 ∙ sym (ap (λ (b : Block). macro_in f b.plane b.x b.y) e))
