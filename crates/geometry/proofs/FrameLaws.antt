-- The planes follow on: every block of the frame stands in the coded order exactly once.
use mathlib.Core.Path.{◌≡◌, refl, sym, ap, ◌∙◌}
use mathlib.Core.List.{List, [], ◌∷◌}
use Prim.Native.Nat.{ℕ, zero, suc, ◌+◌, ◌-◌, ◌*◌, ◌/◌, ◌≤◌, ◌<◌}
use native.Mathlib.Nat.{le_of_suc-le-suc, not-suc-le-zero}
use native.Mathlib.Omega.{arith}
use lib.ListN.{length, get_or}
use Rattle.geometry.specs.declared.PixelFormat.{PixelFormat}
use Rattle.geometry.specs.declared.Place.{Place}
use Rattle.geometry.specs.declared.Block.{Block}
use Rattle.geometry.specs.declared.Plane.{Plane}
use Rattle.geometry.specs.Sizes.{across, up, plane_blocks, blocks_before, blocks_of, plane_of}
use Rattle.geometry.specs.Order.{at, in_turn, block_walk, block_order}
use Rattle.geometry.specs.Rank.{rank_in}
use Rattle.geometry.specs.Frame.{block, InFrame, in_plane, plane_order, frame_order}
use Rattle.geometry.proofs.SizeLaws.{before_next}
use Rattle.geometry.proofs.Sums.{part_of, turn_total}
use Rattle.geometry.proofs.Lists.{turn_below, turn_at}
use Rattle.geometry.proofs.Orders.{index_of}
use Rattle.geometry.proofs.PlaneOrders.{block_order_law}

pub in_plane_length : (p : ℕ) (l : List Place) → length (in_plane p l) ≡ length l
unfolding in_plane
in_plane_length p [] = refl
in_plane_length p (q ∷ qs) = ap suc (in_plane_length p qs)

in_plane_at : (p i : ℕ) (l : List Place) → i < length l → get_or (in_plane p l) i (block 0 0 0) ≡ block p (get_or l i (at 0 0)).x (get_or l i (at 0 0)).y
unfolding in_plane
in_plane_at p i [] h = absurd (not-suc-le-zero h)
in_plane_at p zero (q ∷ qs) h = refl
in_plane_at p (suc i) (q ∷ qs) h = in_plane_at p i qs (le_of_suc-le-suc h)

-- the number of a block
abbrev pub number_of : PixelFormat → ℕ → ℕ → Block → ℕ
number_of f w h b = blocks_before f w h b.plane + index_of 4 (rank_in block_walk) (across f w b.plane) (up f h b.plane) b.x b.y

module _ (f : PixelFormat) (w h : ℕ) where
  plane_length : (p : ℕ) → length (plane_order f w h p) ≡ plane_blocks f w h p
  unfolding plane_order
  plane_length p = in_plane_length p (block_order (across f w p) (up f h p)) ∙ (block_order_law (across f w p) (up f h p)).all

  pub before_length : (p : ℕ) → length (in_turn (plane_order f w h) p) ≡ blocks_before f w h p
  unfolding blocks_before
  before_length p = turn_total (plane_order f w h) (plane_blocks f w h) plane_length p

  pub frame_length : length (frame_order f w h) ≡ blocks_of f w h
  unfolding frame_order blocks_of
  frame_length = turn_total (plane_order f w h) (plane_blocks f w h) plane_length 3

  -- block i of plane p
  pub frame_at : (p i : ℕ) → p < 3 → i < plane_blocks f w h p → let q = get_or (block_order (across f w p) (up f h p)) i (at 0 0) in
      (blocks_before f w h p + i < blocks_of f w h) × (get_or (frame_order f w h) (blocks_before f w h p + i) (block 0 0 0) ≡ block p q.x q.y)
  unfolding frame_order plane_order
  frame_at p i hp hi =
      let l : i < length (plane_order f w h p) = omega (arith, plane_length p) in
      let n = turn_below (plane_order f w h) 3 p i hp l in
      let e = before_length p in (
        omega (arith, frame_length),
        ap (λ (k : ℕ). get_or (in_turn (plane_order f w h) 3) (k + i) (block 0 0 0)) (sym e)
            ∙ turn_at (plane_order f w h) 3 p i (block 0 0 0) hp l
            ∙ in_plane_at p i (block_order (across f w p) (up f h p)) (omega (arith, (block_order_law (across f w p) (up f h p)).all)),
      )

  -- there: each block of the frame stands at its number
  pub frame_there : (b : Block) → InFrame f w h b → (number_of f w h b < blocks_of f w h) × (get_or (frame_order f w h) (number_of f w h b) (block 0 0 0) ≡ b)
  frame_there b k =
      let p = b.plane in
      let t = (block_order_law (across f w p) (up f h p)).there b.x b.y k.column k.row in
      let r = frame_at p (index_of 4 (rank_in block_walk) (across f w p) (up f h p) b.x b.y) k.of_three t.0 in
      (r.0, r.1 ∙ ap (λ (q : Place). block p q.x q.y) t.1)

  -- back: what stands at i lies in the frame, and i is its number
  pub frame_back : (i : ℕ) → i < blocks_of f w h
      → InFrame f w h (get_or (frame_order f w h) i (block 0 0 0)) × (number_of f w h (get_or (frame_order f w h) i (block 0 0 0)) ≡ i)
  unfolding blocks_of blocks_before
  frame_back i hi =
      let s = part_of (plane_blocks f w h) 3 i hi in
      let p = s.of in
      let t = (block_order_law (across f w p) (up f h p)).back s.rest s.rest_below in
      let q = get_or (block_order (across f w p) (up f h p)) s.rest (at 0 0) in
      let e : get_or (frame_order f w h) i (block 0 0 0) ≡ block p q.x q.y =
      ap (λ (k : ℕ). get_or (frame_order f w h) k (block 0 0 0)) (sym s.sum) ∙ (frame_at p s.rest s.of_below s.rest_below).1 in
      rw e (record { of_three = s.of_below; column = t.0; row = t.1 }, ap (λ (k : ℕ). blocks_before f w h p + k) t.2 ∙ s.sum)

  -- once: no block stands twice
  pub frame_once : (i j : ℕ) → i < blocks_of f w h → j < blocks_of f w h → get_or (frame_order f w h) i (block 0 0 0) ≡ get_or (frame_order f w h) j (block 0 0 0) → i ≡ j
  frame_once i j hi hj e = sym (frame_back i hi).1 ∙ ap (number_of f w h) e ∙ (frame_back j hj).1

-- ---- over the numbers that a program has in its variables: q is plane p
module _ (f : PixelFormat) (w h p i : ℕ) (q : Plane) (hp : p < 3) (hl : blocks_before f w h p ≤ i) (hu : i < blocks_before f w h (suc p)) (e : q ≡ plane_of f w h p) where
  pub at_fits : (q.offset / 64 ≤ i) × (i - q.offset / 64 < q.up * q.across)
  at_fits = let n = before_next f w h p in rw e (omega arith, omega arith)

  pub at_by : (s : Place) → s ≡ get_or (block_order q.across q.up) (i - q.offset / 64) (at 0 0) → block p s.x s.y ≡ get_or (frame_order f w h) i (block 0 0 0)
  at_by s es =
      let n = before_next f w h p in
      let d : i - 64 * blocks_before f w h p / 64 ≡ i - blocks_before f w h p = omega arith in
      let g : blocks_before f w h p + (i - blocks_before f w h p) ≡ i = omega arith in
      let t = (frame_at f w h p (i - blocks_before f w h p) hp (omega arith)).1 in
      let es' = rw (e, d) at es in
      ap (λ (o : Place). block p o.x o.y) es' ∙ sym t ∙ ap (λ (k : ℕ). get_or (frame_order f w h) k (block 0 0 0)) g

module _ (f : PixelFormat) (w h : ℕ) (b : Block) (q : Plane) (k : InFrame f w h b) (e : q ≡ plane_of f w h b.plane) where
  pub number_fits : (b.x < q.across) × (b.y < q.up)
  number_fits = rw e (k.column, k.row)

  pub number_by : (n : ℕ) → n < q.up * q.across → get_or (block_order q.across q.up) n (at 0 0) ≡ at b.x b.y
      → (q.offset / 64 + n < blocks_of f w h) × (get_or (frame_order f w h) (q.offset / 64 + n) (block 0 0 0) ≡ b)
  number_by n hn en =
      let d : 64 * blocks_before f w h b.plane / 64 ≡ blocks_before f w h b.plane = omega arith in
      let r = frame_at f w h b.plane n k.of_three (rw e at hn) in
      let en' = rw e at en in
      rw (e, d) (r.0, r.1 ∙ ap (λ (o : Place). block b.plane o.x o.y) en')
