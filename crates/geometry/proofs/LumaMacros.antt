-- The four luma blocks of a macro block follow on in coded order: block i of luma belongs to macro block i / 4.
use mathlib.Core.Path.{◌≡◌, refl, sym, ap, ◌∙◌}
use mathlib.Core.Bool.{Bool, true}
use Prim.Native.Nat.{ℕ, ◌+◌, ◌*◌, ◌/◌, ◌%◌, ◌≤◌, ◌<◌}
use native.Mathlib.Nat.{mul_assoc, mul-mul-mul_comm}
use native.Mathlib.Omega.{arith}
use borrow.Author.Tests.{eqb-true}
use lib.Dec.{eqb}
use lib.ListN.{get_or}
use Rattle.geometry.specs.declared.Place.{Place}
use Rattle.geometry.specs.Order.{at, present, find, block_walk, macro_walk, block_order, coded_macros}
use Rattle.geometry.specs.Rank.{rank_in}
use Rattle.geometry.specs.Square.{reach}
use Rattle.geometry.proofs.Tests.{both, upto, upto_at}
use Rattle.geometry.proofs.Orders.{index_of}
use Rattle.geometry.proofs.PlaneOrders.{block_order_law, macro_order}

-- in a super block: one computed test
test_four : Bool
test_four = upto 3 λ u. upto 3 λ v. upto (2 * u) λ x. upto (2 * v) λ y. eqb (rank_in block_walk (2 * u) (2 * v) x y / 4) (rank_in macro_walk u v (x / 2) (y / 2))

four_computed : test_four ≡ true
unfolding test_four upto both rank_in find present
four_computed = refl

four : (u v x y : ℕ) → u ≤ 2 → v ≤ 2 → x < 2 * u → y < 2 * v → rank_in block_walk (2 * u) (2 * v) x y / 4 ≡ rank_in macro_walk u v (x / 2) (y / 2)
unfolding test_four
four u v x y hu hv hx hy = eqb-true _ _ (upto_at _ _ (upto_at _ _ (upto_at _ _ (upto_at _ _ four_computed u (omega arith)) v (omega arith)) x hx) y hy)

quarter : (w v a b r : ℕ) → (4 * b * (2 * w) + (4 * a * (2 * v) + r)) / 4 ≡ 2 * b * w + (2 * a * v + r / 4)
quarter w v a b r = omega (arith, mul-mul-mul_comm 4 b 2 w, mul_assoc 2 b w, mul-mul-mul_comm 4 a 2 v, mul_assoc 2 a v)

module _ (w h : ℕ) where
  pub macro_index : (x y : ℕ) → x < 2 * w → y < 2 * h
      → index_of 4 (rank_in block_walk) (2 * w) (2 * h) x y / 4 ≡ index_of 2 (rank_in macro_walk) w h (x / 2) (y / 2)
  macro_index x y hx hy =
      let u : reach 4 (2 * w) (x / 4) ≡ 2 * reach 2 w (x / 4) = omega arith in
      let v : reach 4 (2 * h) (y / 4) ≡ 2 * reach 2 h (y / 4) = omega arith in
      let a : x / 2 / 2 ≡ x / 4 = omega arith in
      let b : y / 2 / 2 ≡ y / 4 = omega arith in
      let c : x / 2 % 2 ≡ x % 4 / 2 = omega arith in
      let d : y / 2 % 2 ≡ y % 4 / 2 = omega arith in
      rw (u, v, a, b, c, d)
      (quarter w (reach 2 h (y / 4)) (x / 4) (y / 4) (rank_in block_walk (2 * reach 2 w (x / 4)) (2 * reach 2 h (y / 4)) (x % 4) (y % 4))
      ∙ ap (λ (k : ℕ). 2 * (y / 4) * w + (2 * (x / 4) * reach 2 h (y / 4) + k)) (four (reach 2 w (x / 4)) (reach 2 h (y / 4)) (x % 4) (y % 4) (omega arith) (omega arith) (omega arith) (omega arith)))

  pub macro_of_law : (i : ℕ) → i < 2 * h * (2 * w) → let p = get_or (block_order (2 * w) (2 * h)) i (at 0 0) in
      (i / 4 < h * w) × (get_or (coded_macros w h) (i / 4) (at 0 0) ≡ at (p.x / 2) (p.y / 2))
  macro_of_law i hi =
      let p = get_or (block_order (2 * w) (2 * h)) i (at 0 0) in
      let b = (block_order_law (2 * w) (2 * h)).back i hi in
      let t = (macro_order w h).there (p.x / 2) (p.y / 2) (omega (arith, b.0)) (omega (arith, b.1)) in
      let e : i / 4 ≡ index_of 2 (rank_in macro_walk) w h (p.x / 2) (p.y / 2) = ap (λ (k : ℕ). k / 4) (sym b.2) ∙ macro_index p.x p.y b.0 b.1 in
      (rw e t.0, ap (λ (k : ℕ). get_or (coded_macros w h) k (at 0 0)) e ∙ t.1)

  -- and back: the macro block's first luma block, over the numbers that a program has in its variables
  pub macro_at_by : (i : ℕ) (p : Place) → i < h * w → p ≡ get_or (block_order (2 * w) (2 * h)) (4 * i) (at 0 0) → at (p.x / 2) (p.y / 2) ≡ get_or (coded_macros w h) i (at 0 0)
  macro_at_by i p hi e =
      let d : 4 * i / 4 ≡ i = omega arith in
      let m = (macro_of_law (4 * i) (omega (arith, mul-mul-mul_comm 2 h 2 w))).1 in
      ap (λ (q : Place). at (q.x / 2) (q.y / 2)) e ∙ sym m ∙ ap (λ (k : ℕ). get_or (coded_macros w h) k (at 0 0)) d

  pub macro_number_by : (x y r : ℕ) → r < 2 * h * (2 * w) → get_or (block_order (2 * w) (2 * h)) r (at 0 0) ≡ at (2 * x) (2 * y)
      → (r / 4 < h * w) × (get_or (coded_macros w h) (r / 4) (at 0 0) ≡ at x y)
  macro_number_by x y r hr e =
      let dx : 2 * x / 2 ≡ x = omega arith in
      let dy : 2 * y / 2 ≡ y = omega arith in
      let m = macro_of_law r hr in
      (m.0, m.1 ∙ ap (λ (q : Place). at (q.x / 2) (q.y / 2)) e ∙ (λ i. at (dx i) (dy i)))
