-- Something for each column and row of the three planes: how many there are, and which stands at each place. Assumes nothing.
use mathlib.Core.Path.{◌≡◌, refl, sym, ap, ◌∙◌}
use mathlib.Core.List.{List, [], ◌∷◌}
use Prim.Native.Nat.{ℕ, zero, suc, ◌+◌, ◌*◌, ◌/◌, ◌%◌, ◌<◌}
use native.Mathlib.Nat.{mul-one}
use native.Mathlib.Omega.{arith}
use lib.ListN.{length, get_or, length-append}
use Rattle.geometry.specs.Sizes.{total}
use Rattle.geometry.specs.Order.{in_turn}
use Rattle.geometry.specs.Raster.{grid}
use Rattle.geometry.proofs.Lists.{turn_at}
use Rattle.geometry.proofs.Sums.{part_of, turn_total}
use Rattle.geometry.proofs.Raster.{raster_below, raster_back}

-- ---- lists in turn of one length m
module _ {A : Type 0} (f : ℕ → List A) (m : ℕ) (each : (k : ℕ) → length (f k) ≡ m) where
  pub even_length : (n : ℕ) → length (in_turn f n) ≡ n * m
  unfolding in_turn
  even_length zero = omega arith
  even_length (suc n) = length-append (in_turn f n) (f n) ∙ (let q = even_length n in let r = each n in omega arith)

  pub even_at : (n k i : ℕ) (d : A) → k < n → i < m → get_or (in_turn f n) (k * m + i) d ≡ get_or (f k) i d
  even_at n k i d h l =
      ap (λ (j : ℕ). get_or (in_turn f n) (j + i) d) (sym (even_length k)) ∙ turn_at f n k i d h (let r = each k in omega arith)

-- ---- something for each column and row of the planes
module _ (cols rows : ℕ → ℕ) where
  pub record In (p x y : ℕ) : Type 0 where
    pub of_three : p < 3
    pub column : x < cols p
    pub row : y < rows p

  abbrev pub size : ℕ → ℕ
  size p = rows p * cols p

  -- its place in the whole
  abbrev pub index : ℕ → ℕ → ℕ → ℕ
  index p x y = total size p + (y * cols p + x)

  -- each place has its column and row
  pub grid_found : (i : ℕ) → i < total size 3 → (p : ℕ) × (x : ℕ) × (y : ℕ) × In p x y × (index p x y ≡ i)
  grid_found i l =
      let t = part_of size 3 i l in
      let n = cols t.of in
      let b = raster_back n (rows t.of) t.rest t.rest_below in
      (t.of, t.rest % n, t.rest / n, record { of_three = t.of_below; column = b.1; row = b.2 }, ap (λ (j : ℕ). total size t.of + j) b.3 ∙ t.sum)

  module _ {A : Type 0} (f : ℕ → ℕ → ℕ → A) where
    abbrev pub row_of : ℕ → ℕ → List A
    row_of p y = in_turn (λ x. f p x y ∷ []) (cols p)

    abbrev pub plane_of : ℕ → List A
    plane_of p = in_turn (row_of p) (rows p)

    row_length : (p y : ℕ) → length (row_of p y) ≡ cols p
    row_length p y = even_length (λ x. f p x y ∷ []) 1 (λ x. refl) (cols p) ∙ mul-one (cols p)

    plane_length : (p : ℕ) → length (plane_of p) ≡ size p
    plane_length p = even_length (row_of p) (cols p) (row_length p) (rows p)

    pub grid_length : length (grid cols rows f) ≡ total size 3
    unfolding grid
    grid_length = turn_total plane_of size plane_length 3

    pub grid_at : (p x y : ℕ) (d : A) → In p x y → get_or (grid cols rows f) (index p x y) d ≡ f p x y
    unfolding grid
    grid_at p x y d o =
        let l = raster_below (cols p) (rows p) x y o.column o.row in
        let e : x ≡ x * 1 + 0 = omega arith in
        ap (λ (j : ℕ). get_or (in_turn plane_of 3) (j + (y * cols p + x)) d) (sym (turn_total plane_of size plane_length p))
        ∙ turn_at plane_of 3 p (y * cols p + x) d o.of_three (let q = plane_length p in omega arith)
        ∙ even_at (row_of p) (cols p) (row_length p) (rows p) y x d o.row o.column
        ∙ ap (λ (j : ℕ). get_or (row_of p y) j d) e
        ∙ even_at (λ x. f p x y ∷ []) 1 (λ x. refl) (cols p) x 0 d o.column (omega arith)
