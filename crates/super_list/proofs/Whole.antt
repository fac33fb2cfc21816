-- The places of a whole super block, and their raster numbers. Assumes nothing.
use Prim.Native.Nat.{ℕ, zero, suc, ◌+◌, ◌-◌, ◌*◌, ◌/◌, ◌%◌, ◌≤◌, ◌<◌}
use native.Mathlib.Omega.{arith}
use native.Mathlib.Nat.{add-mul, mul-le-mul, le_of_suc-le-suc, not-suc-le-zero}
use mathlib.Core.Path.{◌≡◌, refl, sym, ap, ◌∙◌, subst}
use mathlib.Core.List.{List, [], ◌∷◌}
use mathlib.Core.Bool.{Bool, true, false, cond}
use lib.Dec.{ltb}
use lib.ListN.{length, get_or}
use Rattle.geometry.specs.declared.PixelFormat.{PixelFormat}
use Rattle.geometry.specs.declared.Place.{Place}
use Rattle.geometry.specs.declared.Block.{Block}
use Rattle.geometry.specs.declared.Plane.{Plane}
use Rattle.geometry.specs.Sizes.{across, up, blocks_before, blocks_of, super_blocks_of, plane_of}
use Rattle.geometry.specs.Order.{at, block_walk, keep, present, shifted, square}
use Rattle.geometry.specs.Frame.{InFrame, block, in_plane, frame_order, super_blocks_before, super_block_in, super_block_of}
use Rattle.geometry.specs.Raster.{raster_number}
use Rattle.geometry.proofs.Lists.{turn_at, shifted_at, shifted_length}
use Rattle.geometry.proofs.FrameLaws.{in_plane_length, frame_back}
use Rattle.geometry.proofs.SuperBlockLaws.{frame_flat}
use Rattle.coded_flags.specs.Coded.{order}
use Rattle.super_list.specs.Listing.{walk_places, WholeAt}
use Rattle.coded_flags.proofs.Order.{order_at, order_small}
use Rattle.coded_flags.proofs.Spread.{first_of}

-- ---- a square that lies whole in its plane
present_most : (w h : ℕ) (l : List Place) → length (present w h l) ≤ length l
unfolding present
present_most w h [] = omega arith
present_most w h (p ∷ l) = go (ltb p.x w) (ltb p.y h) (present_most w h l)
  where
    go : (a b : Bool) → length (present w h l) ≤ length l → length (keep a b p (present w h l)) ≤ suc (length l)
    go true true r = omega arith
    go true false r = omega arith
    go false b r = omega arith

present_all : (w h : ℕ) (l : List Place) → length (present w h l) ≡ length l → present w h l ≡ l
unfolding present
present_all w h [] e = refl
present_all w h (p ∷ l) e = go (ltb p.x w) (ltb p.y h) e (present_all w h l) (present_most w h l)
  where
    go : (a b : Bool) → length (keep a b p (present w h l)) ≡ suc (length l) → (length (present w h l) ≡ length l → present w h l ≡ l) → length (present w h l) ≤ length l → keep a b p (present w h l) ≡ p ∷ l
    go true true e r m = ap (λ (t : List Place). p ∷ t) (r (omega arith))
    go true false e r m = absurd (omega arith)
    go false b e r m = absurd (omega arith)

walk_at : (j : ℕ) → j < 16 → get_or block_walk j (at 0 0) ≡ at (get_or walk_places j 0 % 4) (get_or walk_places j 0 / 4)
walk_at zero l = refl
walk_at (suc zero) l = refl
walk_at (suc (suc zero)) l = refl
walk_at (suc (suc (suc zero))) l = refl
walk_at (suc (suc (suc (suc zero)))) l = refl
walk_at (suc (suc (suc (suc (suc zero))))) l = refl
walk_at (suc (suc (suc (suc (suc (suc zero)))))) l = refl
walk_at (suc (suc (suc (suc (suc (suc (suc zero))))))) l = refl
walk_at (suc (suc (suc (suc (suc (suc (suc (suc zero)))))))) l = refl
walk_at (suc (suc (suc (suc (suc (suc (suc (suc (suc zero))))))))) l = refl
walk_at (suc (suc (suc (suc (suc (suc (suc (suc (suc (suc zero)))))))))) l = refl
walk_at (suc (suc (suc (suc (suc (suc (suc (suc (suc (suc (suc zero))))))))))) l = refl
walk_at (suc (suc (suc (suc (suc (suc (suc (suc (suc (suc (suc (suc zero)))))))))))) l = refl
walk_at (suc (suc (suc (suc (suc (suc (suc (suc (suc (suc (suc (suc (suc zero))))))))))))) l = refl
walk_at (suc (suc (suc (suc (suc (suc (suc (suc (suc (suc (suc (suc (suc (suc zero)))))))))))))) l = refl
walk_at (suc (suc (suc (suc (suc (suc (suc (suc (suc (suc (suc (suc (suc (suc (suc zero))))))))))))))) l = refl
walk_at (suc (suc (suc (suc (suc (suc (suc (suc (suc (suc (suc (suc (suc (suc (suc (suc j)))))))))))))))) l = absurd (omega arith)

pub walk_small : (j : ℕ) → get_or walk_places j 0 ≤ 15
walk_small zero = omega arith
walk_small (suc zero) = omega arith
walk_small (suc (suc zero)) = omega arith
walk_small (suc (suc (suc zero))) = omega arith
walk_small (suc (suc (suc (suc zero)))) = omega arith
walk_small (suc (suc (suc (suc (suc zero))))) = omega arith
walk_small (suc (suc (suc (suc (suc (suc zero)))))) = omega arith
walk_small (suc (suc (suc (suc (suc (suc (suc zero))))))) = omega arith
walk_small (suc (suc (suc (suc (suc (suc (suc (suc zero)))))))) = omega arith
walk_small (suc (suc (suc (suc (suc (suc (suc (suc (suc zero))))))))) = omega arith
walk_small (suc (suc (suc (suc (suc (suc (suc (suc (suc (suc zero)))))))))) = omega arith
walk_small (suc (suc (suc (suc (suc (suc (suc (suc (suc (suc (suc zero))))))))))) = omega arith
walk_small (suc (suc (suc (suc (suc (suc (suc (suc (suc (suc (suc (suc zero)))))))))))) = omega arith
walk_small (suc (suc (suc (suc (suc (suc (suc (suc (suc (suc (suc (suc (suc zero))))))))))))) = omega arith
walk_small (suc (suc (suc (suc (suc (suc (suc (suc (suc (suc (suc (suc (suc (suc zero)))))))))))))) = omega arith
walk_small (suc (suc (suc (suc (suc (suc (suc (suc (suc (suc (suc (suc (suc (suc (suc zero))))))))))))))) = omega arith
walk_small (suc (suc (suc (suc (suc (suc (suc (suc (suc (suc (suc (suc (suc (suc (suc (suc j)))))))))))))))) = omega arith

pub row_small : (j a : ℕ) → a ≤ 131070 → get_or walk_places j 0 / 4 * a ≤ 393210
row_small j a l = let y : get_or walk_places j 0 / 4 ≤ 3 = omega (arith, walk_small j) in omega (arith, mul-le-mul y l)

in_plane_at : (p i : ℕ) (l : List Place) → i < length l → get_or (in_plane p l) i (block 0 0 0) ≡ block p (get_or l i (at 0 0)).x (get_or l i (at 0 0)).y
unfolding in_plane
in_plane_at p i [] h = absurd (not-suc-le-zero h)
in_plane_at p zero (q ∷ qs) h = refl
in_plane_at p (suc i) (q ∷ qs) h = in_plane_at p i qs (le_of_suc-le-suc h)

abbrev Whole : List Block → Type 0
Whole l =
    length l ≡ 16 → (j : ℕ) → j < 16 → let b = get_or l 0 (block 0 0 0) in
    get_or l j (block 0 0 0) ≡ block b.plane (b.x + get_or walk_places j 0 % 4) (b.y + get_or walk_places j 0 / 4)

module _ (p w h dx dy : ℕ) (e : length (in_plane p (present w h (shifted dx dy block_walk))) ≡ 16) where
  all_there : present w h (shifted dx dy block_walk) ≡ shifted dx dy block_walk
  all_there = present_all w h (shifted dx dy block_walk) (sym (in_plane_length p (present w h (shifted dx dy block_walk))) ∙ e ∙ sym (shifted_length dx dy block_walk))

  square_place : (j : ℕ) → j < 16 → get_or (in_plane p (present w h (shifted dx dy block_walk))) j (block 0 0 0) ≡ block p (dx + get_or walk_places j 0 % 4) (dy + get_or walk_places j 0 / 4)
  square_place j l =
      ap (λ (t : List Place). get_or (in_plane p t) j (block 0 0 0)) all_there
      ∙ in_plane_at p j (shifted dx dy block_walk) (omega (arith, l, shifted_length dx dy block_walk))
      ∙ ap (λ (q : Place). block p q.x q.y) (shifted_at dx dy j block_walk (at 0 0) l ∙ ap (λ (q : Place). at (dx + q.x) (dy + q.y)) (walk_at j l))

square_whole : (p w h dx dy : ℕ) → Whole (in_plane p (present w h (shifted dx dy block_walk)))
square_whole p w h dx dy e j l =
    let s = square_place p w h dx dy e 0 (omega arith) in
    let b = get_or (in_plane p (present w h (shifted dx dy block_walk))) 0 (block 0 0 0) in
    let x0 : b.x ≡ dx + 0 = ap (λ (c : Block). c.x) s in
    let y0 : b.y ≡ dy + 0 = ap (λ (c : Block). c.y) s in
    let ex : dx + get_or walk_places j 0 % 4 ≡ b.x + get_or walk_places j 0 % 4 = omega (arith, x0) in
    let ey : dy + get_or walk_places j 0 / 4 ≡ b.y + get_or walk_places j 0 / 4 = omega (arith, y0) in
    square_place p w h dx dy e j l ∙ (λ i. block (sym (ap (λ (c : Block). c.plane) s) i) (ex i) (ey i))

module _ (f : PixelFormat) (w h : ℕ) where
  super_whole : (k : ℕ) → Whole (super_block_of f w h k)
  unfolding super_block_of super_block_in square
  super_whole k = go (ltb k (super_blocks_before f w h 1)) (ltb k (super_blocks_before f w h 2))
    where
      go : (a b : Bool) → Whole (cond a (super_block_in f w h 0 k) (cond b (super_block_in f w h 1 (k - super_blocks_before f w h 1)) (super_block_in f w h 2 (k - super_blocks_before f w h 2))))
      go true b = square_whole 0 (across f w 0) (up f h 0) _ _
      go false true = square_whole 1 (across f w 1) (up f h 1) _ _
      go false false = square_whole 2 (across f w 2) (up f h 2) _ _

  -- a super block of 16 blocks is whole
  pub whole_at : (k : ℕ) → k < super_blocks_of f w h → length (super_block_of f w h k) ≡ 16 → WholeAt f w h (first_of f w h k)
  unfolding WholeAt
  whole_at k l e j g =
      let here : (i : ℕ) → i < 16 → get_or (frame_order f w h) (first_of f w h k + i) (block 0 0 0) ≡ get_or (super_block_of f w h k) i (block 0 0 0) = λ i a. ap (λ (t : List Block). get_or t (first_of f w h k + i) (block 0 0 0)) (frame_flat f w h) ∙ turn_at (super_block_of f w h) (super_blocks_of f w h) k i (block 0 0 0) l (omega (arith, a, e)) in
      let z : first_of f w h k ≡ first_of f w h k + 0 = omega arith in
      let s = ap (λ (i : ℕ). get_or (frame_order f w h) i (block 0 0 0)) z ∙ here 0 (omega arith) in
      here j g ∙ super_whole k e j g ∙ ap (λ (b : Block). block b.plane (b.x + get_or walk_places j 0 % 4) (b.y + get_or walk_places j 0 / 4)) (sym s)

  -- a block of the frame's order lies in the frame
  pub inside : (i : ℕ) → i < blocks_of f w h → (b : Block) → b ≡ get_or (frame_order f w h) i (block 0 0 0) → InFrame f w h b
  inside i l b e = subst (InFrame f w h) (sym e) (frame_back f w h i l).0

  -- the number of a block by that of the first one
  pub whole_number : (i : ℕ) → WholeAt f w h i → i + 16 ≤ blocks_of f w h → (b : Block) → b ≡ get_or (frame_order f w h) i (block 0 0 0)
      → (corner : ℕ) → corner ≡ raster_number f w h b → (q : Plane) → q ≡ plane_of f w h b.plane
      → (place j : ℕ) → j < 16 → place ≡ get_or walk_places j 0 → let n = corner + place / 4 * q.across + place % 4 in (n ≡ get_or (order f w h) (i + j) 0) × (n < blocks_of f w h)
  unfolding WholeAt raster_number
  whole_number i z m b e corner ec q eq place j l ep =
      let x = place % 4 in
      let y = place / 4 in
      let n = across f w b.plane in
      let r : blocks_before f w h b.plane + (b.y * n + b.x) + y * n + x ≡ blocks_before f w h b.plane + ((b.y + y) * n + (b.x + x)) = omega (arith, add-mul b.y y n) in
      let is : corner + y * q.across + x ≡ get_or (order f w h) (i + j) 0 =
      (λ d. ec d + y * (eq d).across + x)
      ∙ r
      ∙ ap (λ (c : Block). raster_number f w h (block c.plane (c.x + x) (c.y + y))) e
      ∙ ap (λ (p : ℕ). let c = get_or (frame_order f w h) i (block 0 0 0) in raster_number f w h (block c.plane (c.x + p % 4) (c.y + p / 4))) ep
      ∙ ap (raster_number f w h) (sym (z j l))
      ∙ sym (order_at f w h (i + j) (omega arith)) in
      (is, omega (arith, order_small f w h (i + j) (omega arith)))
