-- Super blocks by number: the order is square 0, square 1, and so on, in raster order; and the numbers of a square's places follow on.
use mathlib.Core.Path.{◌≡◌, sym, ap, ◌∙◌}
use mathlib.Core.List.{List, ◌++◌}
use Prim.Native.Nat.{ℕ, zero, suc, ◌+◌, ◌*◌, ◌/◌, ◌%◌, ◌≤◌, ◌<◌, min}
use native.Mathlib.Nat.{suc-mul, zero-mul, mul-add-div_right, mul-add-mod_self_right, div-eq_of_lt, mod-eq_of_lt, div-add-mod', mod-lt, div-lt_iff_lt-mul}
use native.Mathlib.Omega.{arith}
use lib.ListN.{length, length-append}
use Rattle.geometry.specs.declared.Place.{Place}
use Rattle.geometry.specs.Sizes.{squares}
use Rattle.geometry.specs.Order.{in_turn, square, row, ordered, square_no}
use Rattle.geometry.specs.Square.{reach}
use Rattle.geometry.proofs.Products.{squares_begin, some_factor}
use Rattle.geometry.proofs.Lists.{turn_same, turn_add}
use Rattle.geometry.proofs.Orders.{Walk, squares_before, rows_before, square_length}

module _ (f : ℕ → ℕ → List Place) (n : ℕ) where
  abbrev by_number : ℕ → List Place
  by_number k = f (k / n) (k % n)

  number_is : (m j : ℕ) → j < n → by_number (m * n + j) ≡ f m j
  number_is m j h =
      let p : 0 < n = omega arith in
      let d : (m * n + j) / n ≡ m = mul-add-div_right p m j ∙ omega (arith, div-eq_of_lt h) in
      let r : (m * n + j) % n ≡ j = mul-add-mod_self_right m n j ∙ mod-eq_of_lt h in
      λ i. f (d i) (r i)

  -- a more after m whole rows
  part : (m a : ℕ) → a ≤ n → in_turn by_number (m * n) ≡ in_turn (λ b. in_turn (f b) n) m → in_turn by_number (m * n + a) ≡ in_turn (λ b. in_turn (f b) n) m ++ in_turn (f m) a
  part m a h e =
      turn_add by_number (m * n) a
      ∙ ap (λ (l : List Place). l ++ in_turn (λ j. by_number (m * n + j)) a) e
      ∙ ap (λ (l : List Place). in_turn (λ b. in_turn (f b) n) m ++ l) (turn_same (λ j. by_number (m * n + j)) (f m) a (λ k l. number_is m k (omega arith)))

  pub turn_rows : (m : ℕ) → in_turn by_number (m * n) ≡ in_turn (λ b. in_turn (f b) n) m
  unfolding in_turn
  turn_rows zero = ap (in_turn by_number) (zero-mul n)
  turn_rows (suc m) = ap (in_turn by_number) (suc-mul m n) ∙ part m n (omega arith) (turn_rows m)

  pub turn_part : (m a : ℕ) → a ≤ n → in_turn by_number (m * n + a) ≡ in_turn (λ b. in_turn (f b) n) m ++ in_turn (f m) a
  turn_part m a h = part m a h (turn_rows m)

module _ (s : ℕ) (walk : List Place) (rank : ℕ → ℕ → ℕ → ℕ → ℕ) (ok : Walk s walk rank) (w h : ℕ) where
  -- the order is one square after the other
  pub ordered_flat : ordered s walk w h ≡ in_turn (square_no s walk w h) (squares s h * squares s w)
  unfolding ordered row
  ordered_flat = sym (turn_rows (square s walk w h) (squares s w) (squares s h))

  -- the number of the first place of square k, and how many it has
  pub first_is : (k : ℕ) → k < squares s h * squares s w
      → (s * (k % squares s w) < w) × (s * (k / squares s w) < h)
      × (length (in_turn (square_no s walk w h) k) ≡ s * (k / squares s w) * w + s * (k % squares s w) * reach s h (k / squares s w))
      × (length (square_no s walk w h k) ≡ reach s w (k % squares s w) * reach s h (k / squares s w))
  unfolding row
  first_is k hk =
      let n = squares s w in
      let p : 0 < squares s w = some_factor k (squares s h) (squares s w) hk in
      let la = squares_begin s w (k % squares s w) ok.side (mod-lt k p) in
      let lb = squares_begin s h (k / squares s w) ok.side ((div-lt_iff_lt-mul p).1 hk) in
      let m : min (s * (k % squares s w)) w ≡ s * (k % squares s w) = omega arith in
      let o : min (s * (k / squares s w)) h ≡ s * (k / squares s w) = omega arith in (
        la,
        lb,
        ap (λ (j : ℕ). length (in_turn (square_no s walk w h) j)) (sym (div-add-mod' k (squares s w)))
            ∙ ap length (turn_part (square s walk w h) (squares s w) (k / squares s w) (k % squares s w) (omega (arith, mod-lt k p)))
            ∙ length-append (in_turn (row s walk w h) (k / squares s w)) (in_turn (square s walk w h (k / squares s w)) (k % squares s w))
            ∙ ap (λ (j : ℕ). j + length (in_turn (square s walk w h (k / squares s w)) (k % squares s w))) (rows_before s walk rank ok w h (k / squares s w) ∙ ap (λ (j : ℕ). j * w) o)
            ∙ ap (λ (j : ℕ). s * (k / squares s w) * w + j) (squares_before s walk rank ok w h (k / squares s w) (k % squares s w) ∙ ap (λ (j : ℕ). j * reach s h (k / squares s w)) m),
        square_length s walk rank ok w h (k / squares s w) (k % squares s w),
      )

  -- as a program comes to it
  pub super_by : (k u v f a b : ℕ) → k < squares s h * squares s w → a ≡ k % squares s w → b ≡ k / squares s w
      → u ≡ reach s w a → v ≡ reach s h b → f ≡ s * b * w + s * a * v
      → (f ≡ length (in_turn (square_no s walk w h) k)) × (u * v ≡ length (square_no s walk w h k))
  super_by k u v f a b hk ea eb eu ev ef = let r = first_is k hk in rw (ef, eu, ev, ea, eb) (sym r.2, sym r.3)
