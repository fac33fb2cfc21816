-- The coded order of a frame is super block 0, 1, 2 and so on, each with its blocks: what flags are read by.
use mathlib.Core.Path.{◌≡◌, refl, sym, ap, ◌∙◌}
use mathlib.Core.List.{List, [], ◌∷◌, ◌++◌}
use Prim.Native.Nat.{ℕ, zero, suc, ◌+◌, ◌-◌, ◌*◌, ◌/◌, ◌≤◌, ◌<◌}
use native.Mathlib.Omega.{arith}
use borrow.Author.Tests.{lt-ltb, le-ltb}
use lib.ListN.{length, length-append}
use Rattle.geometry.specs.declared.PixelFormat.{PixelFormat}
use Rattle.geometry.specs.declared.Place.{Place}
use Rattle.geometry.specs.declared.Block.{Block}
use Rattle.geometry.specs.declared.Plane.{Plane}
use Rattle.geometry.specs.Sizes.{across, up, squares, total, plane_super_blocks, blocks_before, blocks_of, super_blocks_of, plane_of}
use Rattle.geometry.specs.Order.{in_turn, block_walk, square_no}
use Rattle.geometry.specs.Rank.{rank_in}
use Rattle.geometry.specs.Frame.{block, in_plane, plane_order, frame_order, super_blocks_before, super_block_in, super_block_of}
use Rattle.geometry.proofs.Lists.{turn_end, turn_same, turn_add}
use Rattle.geometry.proofs.Sums.{turn_parts}
use Rattle.geometry.proofs.Flat.{ordered_flat}
use Rattle.geometry.proofs.Walks.{block_walk_law}
use Rattle.geometry.proofs.FrameLaws.{in_plane_length, before_length, frame_length}

in_plane_append : (p : ℕ) (l m : List Place) → in_plane p (l ++ m) ≡ in_plane p l ++ in_plane p m
unfolding in_plane
in_plane_append p [] m = refl
in_plane_append p (q ∷ qs) m = ap (λ (l : List Block). block p q.x q.y ∷ l) (in_plane_append p qs m)

in_plane_turn : (p : ℕ) (g : ℕ → List Place) (n : ℕ) → in_plane p (in_turn g n) ≡ in_turn (λ k. in_plane p (g k)) n
unfolding in_turn in_plane
in_plane_turn p g zero = refl
in_plane_turn p g (suc n) = in_plane_append p (in_turn g n) (g n) ∙ ap (λ (l : List Block). l ++ in_plane p (g n)) (in_plane_turn p g n)

module _ (f : PixelFormat) (w h : ℕ) where
  pub supers_before : (super_blocks_before f w h 0 ≡ 0)
      × (super_blocks_before f w h 1 ≡ plane_super_blocks f w h 0)
      × (super_blocks_before f w h 2 ≡ plane_super_blocks f w h 0 + plane_super_blocks f w h 1)
      × (super_blocks_of f w h ≡ super_blocks_before f w h 2 + plane_super_blocks f w h 2)
  unfolding super_blocks_before super_blocks_of total
  supers_before = (refl, omega arith, omega arith, refl)

  -- super block j of plane p
  pub super_in : (p j : ℕ) → p < 3 → j < plane_super_blocks f w h p → super_block_of f w h (super_blocks_before f w h p + j) ≡ super_block_in f w h p j
  unfolding super_block_of
  super_in zero j hp hj =
      let s = supers_before in
      let e : super_blocks_before f w h 0 + j ≡ j = omega arith in
      rw (lt-ltb (super_blocks_before f w h 0 + j) (super_blocks_before f w h 1) (omega arith)) (ap (super_block_in f w h 0) e)
  super_in (suc zero) j hp hj =
      let s = supers_before in
      let e : super_blocks_before f w h 1 + j - super_blocks_before f w h 1 ≡ j = omega arith in
      rw (le-ltb (super_blocks_before f w h 1 + j) (super_blocks_before f w h 1) (omega arith), lt-ltb (super_blocks_before f w h 1 + j) (super_blocks_before f w h 2) (omega arith))
      (ap (super_block_in f w h 1) e)
  super_in (suc (suc zero)) j hp hj =
      let s = supers_before in
      let e : super_blocks_before f w h 2 + j - super_blocks_before f w h 2 ≡ j = omega arith in
      rw (le-ltb (super_blocks_before f w h 2 + j) (super_blocks_before f w h 1) (omega arith), le-ltb (super_blocks_before f w h 2 + j) (super_blocks_before f w h 2) (omega arith))
      (ap (super_block_in f w h 2) e)
  super_in (suc (suc (suc p))) j hp hj = absurd (omega arith)

  plane_flat : (p : ℕ) → p < 3 → in_turn (λ j. super_block_of f w h (super_blocks_before f w h p + j)) (plane_super_blocks f w h p) ≡ plane_order f w h p
  unfolding plane_order super_block_in
  plane_flat p hp =
      turn_same (λ j. super_block_of f w h (super_blocks_before f w h p + j)) (super_block_in f w h p) (plane_super_blocks f w h p) (λ j. super_in p j hp)
      ∙ sym (in_plane_turn p (square_no 4 block_walk (across f w p) (up f h p)) (plane_super_blocks f w h p))
      ∙ ap (in_plane p) (sym (ordered_flat 4 block_walk (rank_in block_walk) block_walk_law (across f w p) (up f h p)))

  -- the super blocks before a plane are the planes before it
  planes_flat : (p : ℕ) → p ≤ 3 → in_turn (super_block_of f w h) (super_blocks_before f w h p) ≡ in_turn (plane_order f w h) p
  unfolding super_blocks_before
  planes_flat p hp =
      turn_parts (super_block_of f w h) (plane_super_blocks f w h) p
      ∙ turn_same (λ q. in_turn (λ j. super_block_of f w h (super_blocks_before f w h q + j)) (plane_super_blocks f w h q)) (plane_order f w h) p (λ q l. plane_flat q (omega arith))

  -- the order is one super block after the other
  pub frame_flat : frame_order f w h ≡ in_turn (super_block_of f w h) (super_blocks_of f w h)
  unfolding frame_order super_blocks_of super_blocks_before
  frame_flat = sym (planes_flat 3 (omega arith))

  -- a super block ends in the frame
  pub super_end : (k : ℕ) → k < super_blocks_of f w h → length (in_turn (super_block_of f w h) k) + length (super_block_of f w h k) ≤ blocks_of f w h
  super_end k hk = omega (arith, turn_end (super_block_of f w h) (super_blocks_of f w h) k hk, ap length frame_flat, frame_length f w h)

  -- the number of the first block of super block j of plane p, and how many blocks it has
  module _ (p j : ℕ) (hp : p < 3) (hj : j < plane_super_blocks f w h p) where
    pub super_count : length (super_block_of f w h (super_blocks_before f w h p + j)) ≡ length (square_no 4 block_walk (across f w p) (up f h p) j)
    unfolding super_block_in
    super_count = ap length (super_in p j hp hj) ∙ in_plane_length p (square_no 4 block_walk (across f w p) (up f h p) j)

    pub super_first : length (in_turn (super_block_of f w h) (super_blocks_before f w h p + j)) ≡ blocks_before f w h p + length (in_turn (square_no 4 block_walk (across f w p) (up f h p)) j)
    unfolding super_block_in
    super_first =
        let t = square_no 4 block_walk (across f w p) (up f h p) in
        let a : length (in_turn (super_block_of f w h) (super_blocks_before f w h p)) ≡ blocks_before f w h p = ap length (planes_flat p (omega arith)) ∙ before_length f w h p in
        let b : length (in_turn (λ i. super_block_of f w h (super_blocks_before f w h p + i)) j) ≡ length (in_turn t j) =
        ap length (turn_same (λ i. super_block_of f w h (super_blocks_before f w h p + i)) (super_block_in f w h p) j (λ i l. super_in p i hp (omega arith)))
        ∙ ap length (sym (in_plane_turn p t j))
        ∙ in_plane_length p (in_turn t j) in
        ap length (turn_add (super_block_of f w h) (super_blocks_before f w h p) j)
        ∙ length-append (in_turn (super_block_of f w h) (super_blocks_before f w h p)) (in_turn (λ i. super_block_of f w h (super_blocks_before f w h p + i)) j)
        ∙ (λ i. a i + b i)

  -- over the numbers that a program has in its variables: it is super block j of plane p, which is q
  module _ (k p j : ℕ) (q : Plane) (hk : k < super_blocks_of f w h) (hp : p < 3) (hj : j < plane_super_blocks f w h p) (ek : super_blocks_before f w h p + j ≡ k) (e : q ≡ plane_of f w h p) where
    pub super_fits : j < squares 4 q.up * squares 4 q.across
    super_fits = rw e hj

    pub super_by_plane : (m n : ℕ) → m ≡ length (in_turn (square_no 4 block_walk q.across q.up) j) → n ≡ length (square_no 4 block_walk q.across q.up j)
        → (q.offset / 64 + m ≡ length (in_turn (super_block_of f w h) k)) × (n ≡ length (super_block_of f w h k)) × (q.offset / 64 + m + n ≤ blocks_of f w h)
    super_by_plane m n em en =
        let o : q.offset ≡ 64 * blocks_before f w h p = ap (λ (r : Plane). r.offset) e in
        let a = em ∙ ap (λ (r : Plane). length (in_turn (square_no 4 block_walk r.across r.up) j)) e in
        let b = en ∙ ap (λ (r : Plane). length (square_no 4 block_walk r.across r.up j)) e in
        let first : q.offset / 64 + m ≡ length (in_turn (super_block_of f w h) k) = omega (arith, super_first p j hp hj) ∙ ap (λ (i : ℕ). length (in_turn (super_block_of f w h) i)) ek in
        let count : n ≡ length (super_block_of f w h k) = b ∙ sym (super_count p j hp hj) ∙ ap (λ (i : ℕ). length (super_block_of f w h i)) ek in
        (first, count, omega (arith, super_end k hk))
