-- One law for every order of squares: what stands where, and back.
use mathlib.Core.Path.{◌≡◌, sym, ap, ◌∙◌}
use mathlib.Core.List.{List}
use Prim.Native.Nat.{ℕ, ◌+◌, ◌*◌, ◌/◌, ◌%◌, ◌≤◌, ◌<◌, min}
use native.Mathlib.Nat.{add_assoc, mul_comm, mul-add-div, mul-add-mod_self_left, div-eq_of_lt, mod-eq_of_lt, div-add-mod, mod-lt}
use native.Mathlib.Omega.{arith}
use mathlib.Core.Bool.{true}
use lib.ListN.{length, get_or}
use Rattle.geometry.specs.declared.Place.{Place}
use Rattle.geometry.specs.Sizes.{squares}
use Rattle.geometry.specs.Order.{at, in_turn, present, shifted, square, row, ordered, find}
use Rattle.geometry.specs.Rank.{in_corner}
use Rattle.geometry.specs.Square.{reach, SpotOf}
use Rattle.geometry.proofs.Products.{squares_cover, squares_reach}
use Rattle.geometry.proofs.Spots.{row_of, col_of, rest_of, low, left, rest, whole}
use Rattle.geometry.proofs.Lists.{turn_below, turn_at, turn_length, shifted_length, shifted_at, shifted_present, small, find_there}

-- what a walk of a square of side s has to be: it stays in the square, and in each corner of u by v it goes through all u v places;
-- `rank u v x y` says when it comes to (x, y) there. All of it is computed for a given walk.
pub record Walk (s : ℕ) (walk : List Place) (rank : ℕ → ℕ → ℕ → ℕ → ℕ) : Type 0 where
  pub side : 0 < s
  pub stays : small s walk ≡ true
  pub all : (u v : ℕ) → u ≤ s → v ≤ s → length (present u v walk) ≡ u * v
  pub there : (u v x y : ℕ) → u ≤ s → v ≤ s → x < u → y < v → (rank u v x y < u * v) × (get_or (present u v walk) (rank u v x y) (at 0 0) ≡ at x y)
  pub back : (u v i : ℕ) → u ≤ s → v ≤ s → i < u * v →
      ((get_or (present u v walk) i (at 0 0)).x < u) × ((get_or (present u v walk) i (at 0 0)).y < v)
      × (rank u v (get_or (present u v walk) i (at 0 0)).x (get_or (present u v walk) i (at 0 0)).y ≡ i)

-- the place in the order of (x, y) of square (a, b)
abbrev pub in_square : ℕ → (ℕ → ℕ → ℕ → ℕ → ℕ) → ℕ → ℕ → ℕ → ℕ → ℕ → ℕ → ℕ
in_square s rank w h a b x y = s * b * w + (s * a * reach s h b + rank (reach s w a) (reach s h b) x y)

-- and of (x, y) of the plane
abbrev pub index_of : ℕ → (ℕ → ℕ → ℕ → ℕ → ℕ) → ℕ → ℕ → ℕ → ℕ → ℕ
index_of s rank w h x y = in_square s rank w h (x / s) (y / s) (x % s) (y % s)

-- what stands at i
abbrev pub position_of : ℕ → List Place → ℕ → ℕ → ℕ → Place
position_of s walk w h i =
    at (s * col_of s w h i + (in_corner walk (reach s w (col_of s w h i)) (reach s h (row_of s w i)) (rest_of s w h i)).x)
    (s * row_of s w i + (in_corner walk (reach s w (col_of s w h i)) (reach s h (row_of s w i)) (rest_of s w h i)).y)

module _ (s : ℕ) (walk : List Place) (rank : ℕ → ℕ → ℕ → ℕ → ℕ) (ok : Walk s walk rank) (w h : ℕ) where
  square_is : (b a : ℕ) → square s walk w h b a ≡ shifted (s * a) (s * b) (present (reach s w a) (reach s h b) walk)
  unfolding square
  square_is b a = shifted_present s w h (s * a) (s * b) walk ok.stays

  pub square_length : (b a : ℕ) → length (square s walk w h b a) ≡ reach s w a * reach s h b
  square_length b a = ap length (square_is b a) ∙ shifted_length (s * a) (s * b) (present (reach s w a) (reach s h b) walk) ∙ ok.all (reach s w a) (reach s h b) (omega arith) (omega arith)

  -- the squares before a in row b
  pub squares_before : (b a : ℕ) → length (in_turn (square s walk w h b) a) ≡ min (s * a) w * reach s h b
  squares_before b a = turn_length (square s walk w h b) s w (reach s h b) (square_length b) a

  row_length : (b : ℕ) → length (row s walk w h b) ≡ reach s h b * w
  unfolding row
  row_length b =
      let e : min (s * squares s w) w ≡ w = omega (arith, squares_cover s w ok.side) in
      squares_before b (squares s w) ∙ ap (λ (n : ℕ). n * reach s h b) e ∙ mul_comm w (reach s h b)

  -- the rows of squares before b
  pub rows_before : (b : ℕ) → length (in_turn (row s walk w h) b) ≡ min (s * b) h * w
  rows_before b = turn_length (row s walk w h) s h w row_length b

  pub ordered_length : length (ordered s walk w h) ≡ h * w
  unfolding ordered
  ordered_length =
      let e : min (s * squares s h) h ≡ h = omega (arith, squares_cover s h ok.side) in
      rows_before (squares s h) ∙ ap (λ (n : ℕ). n * w) e

  -- the place i of square (a, b) in the order
  pub square_at : (a b i : ℕ) → s * a < w → s * b < h → i < reach s w a * reach s h b
      → (s * b * w + (s * a * reach s h b + i) < h * w)
      × (get_or (ordered s walk w h) (s * b * w + (s * a * reach s h b + i)) (at 0 0) ≡ get_or (square s walk w h b a) i (at 0 0))
  unfolding ordered row
  square_at a b i ha hb hi =
      let m : min (s * a) w ≡ s * a = omega arith in
      let n : min (s * b) h ≡ s * b = omega arith in
      let p : length (in_turn (square s walk w h b) a) ≡ s * a * reach s h b = squares_before b a ∙ ap (λ (k : ℕ). k * reach s h b) m in
      let q : length (in_turn (row s walk w h) b) ≡ s * b * w = rows_before b ∙ ap (λ (k : ℕ). k * w) n in
      let ka = squares_reach s w a ok.side ha in
      let kb = squares_reach s h b ok.side hb in
      let li : i < length (square s walk w h b a) = omega (arith, square_length b a) in
      let lr = turn_below (square s walk w h b) (squares s w) a i ka li in
      let lo = turn_below (row s walk w h) (squares s h) b (length (in_turn (square s walk w h b) a) + i) kb lr in
      let e : s * b * w + (s * a * reach s h b + i) ≡ length (in_turn (row s walk w h) b) + (length (in_turn (square s walk w h b) a) + i) = omega arith in (
        omega (arith, ordered_length),
        ap (λ (k : ℕ). get_or (in_turn (row s walk w h) (squares s h)) k (at 0 0)) e
            ∙ turn_at (row s walk w h) (squares s h) b (length (in_turn (square s walk w h b) a) + i) (at 0 0) kb lr
            ∙ turn_at (square s walk w h b) (squares s w) a i (at 0 0) ka li,
      )

  -- there: (x, y) of square (a, b) stands at its index
  pub in_square_there : (a b x y : ℕ) → x < reach s w a → y < reach s h b
      → (in_square s rank w h a b x y < h * w) × (get_or (ordered s walk w h) (in_square s rank w h a b x y) (at 0 0) ≡ at (s * a + x) (s * b + y))
  in_square_there a b x y hx hy =
      let t = ok.there (reach s w a) (reach s h b) x y (omega arith) (omega arith) hx hy in
      let r = square_at a b (rank (reach s w a) (reach s h b) x y) (omega arith) (omega arith) t.0 in
      let l = ok.all (reach s w a) (reach s h b) (omega arith) (omega arith) in (
        r.0,
        r.1 ∙ ap (λ (k : List Place). get_or k (rank (reach s w a) (reach s h b) x y) (at 0 0)) (square_is b a)
            ∙ shifted_at (s * a) (s * b) (rank (reach s w a) (reach s h b) x y) (present (reach s w a) (reach s h b) walk) (at 0 0) (omega (arith, t.0))
            ∙ ap (λ (p : Place). at (s * a + p.x) (s * b + p.y)) t.1,
      )

  pub there : (x y : ℕ) → x < w → y < h → (index_of s rank w h x y < h * w) × (get_or (ordered s walk w h) (index_of s rank w h x y) (at 0 0) ≡ at x y)
  there x y hx hy =
      let ex = div-add-mod x s in
      let ey = div-add-mod y s in
      let r = in_square_there (x / s) (y / s) (x % s) (y % s) (omega (arith, mod-lt x ok.side)) (omega (arith, mod-lt y ok.side)) in
      (r.0, r.1 ∙ ap (λ (k : ℕ). at k (s * (y / s) + y % s)) ex ∙ ap (λ (k : ℕ). at x k) ey)

  div_square : (k x n : ℕ) → x < reach s n k → (s * k + x) / s ≡ k
  div_square k x n hx = mul-add-div ok.side k x ∙ omega (arith, div-eq_of_lt {n = x} {m = s} (omega arith))

  mod_square : (k x n : ℕ) → x < reach s n k → (s * k + x) % s ≡ x
  mod_square k x n hx = mul-add-mod_self_left s k x ∙ mod-eq_of_lt (omega arith)

  index_in_square : (a b x y : ℕ) → x < reach s w a → y < reach s h b → index_of s rank w h (s * a + x) (s * b + y) ≡ in_square s rank w h a b x y
  index_in_square a b x y hx hy = rw (div_square a x w hx, mod_square a x w hx, div_square b y h hy, mod_square b y h hy)

  module _ (i : ℕ) (hi : i < h * w) where
    begins_b : s * row_of s w i < h
    begins_b = low s w h i ok.side hi

    begins_a : s * col_of s w h i < w
    begins_a = left s w h i ok.side hi

    rest_a : rest_of s w h i < reach s w (col_of s w h i) * reach s h (row_of s w i)
    rest_a = rest s w h i ok.side hi

    parts_sum : s * row_of s w i * w + (s * col_of s w h i * reach s h (row_of s w i) + rest_of s w h i) ≡ i
    parts_sum = whole s w h i ok.side hi

    -- what stands at i
    pub position_is : get_or (ordered s walk w h) i (at 0 0) ≡ position_of s walk w h i
    unfolding in_corner
    position_is =
        let r = square_at (col_of s w h i) (row_of s w i) (rest_of s w h i) begins_a begins_b rest_a in
        let l = ok.all (reach s w (col_of s w h i)) (reach s h (row_of s w i)) (omega arith) (omega arith) in
        ap (λ (k : ℕ). get_or (ordered s walk w h) k (at 0 0)) (sym parts_sum)
        ∙ r.1
        ∙ ap (λ (k : List Place). get_or k (rest_of s w h i) (at 0 0)) (square_is (row_of s w i) (col_of s w h i))
        ∙ shifted_at (s * col_of s w h i) (s * row_of s w i) (rest_of s w h i) (present (reach s w (col_of s w h i)) (reach s h (row_of s w i)) walk) (at 0 0) (omega (arith, rest_a))

    pub placed : ((position_of s walk w h i).x < w) × ((position_of s walk w h i).y < h) × (position_of s walk w h i ≡ get_or (ordered s walk w h) i (at 0 0))
    unfolding in_corner
    placed =
        let t = ok.back (reach s w (col_of s w h i)) (reach s h (row_of s w i)) (rest_of s w h i) (omega arith) (omega arith) rest_a in
        (omega (arith, t.0), omega (arith, t.1), sym position_is)

    -- back: what stands at i lies in the plane, and i is its index
    pub back : ((get_or (ordered s walk w h) i (at 0 0)).x < w) × ((get_or (ordered s walk w h) i (at 0 0)).y < h)
        × (index_of s rank w h (get_or (ordered s walk w h) i (at 0 0)).x (get_or (ordered s walk w h) i (at 0 0)).y ≡ i)
    unfolding in_corner
    back =
        let t = ok.back (reach s w (col_of s w h i)) (reach s h (row_of s w i)) (rest_of s w h i) (omega arith) (omega arith) rest_a in
        let p = get_or (present (reach s w (col_of s w h i)) (reach s h (row_of s w i)) walk) (rest_of s w h i) (at 0 0) in
        rw position_is (
          omega (arith, t.0),
          omega (arith, t.1),
          index_in_square (col_of s w h i) (row_of s w i) p.x p.y t.0 t.1
              ∙ ap (λ (k : ℕ). s * row_of s w i * w + (s * col_of s w h i * reach s h (row_of s w i) + k)) t.2
              ∙ parts_sum,
        )

  -- the same facts as a program comes to them: over the numbers that it has in its variables
  pub there_by : (x y u v f r : ℕ) → x < w → y < h → u ≡ reach s w (x / s) → v ≡ reach s h (y / s) → f ≡ s * (y / s) * w + s * (x / s) * v
      → r ≡ rank u v (x % s) (y % s) → (f + r < h * w) × (get_or (ordered s walk w h) (f + r) (at 0 0) ≡ at x y)
  there_by x y u v f r hx hy eu ev ef er = rw (er, ef, eu, ev, add_assoc) (there x y hx hy)

  module _ (i a b u v t : ℕ) (hi : i < h * w) (e : SpotOf s w h i a b u v t) where
    pub rest_by : t < u * v
    rest_by = rw (e.left_over, e.wide, e.tall) (rest_a i hi)

    pub place_by : (p : Place) → p ≡ in_corner walk u v t
        → (a + p.x < w) × (b + p.y < h) × (at (a + p.x) (b + p.y) ≡ get_or (ordered s walk w h) i (at 0 0))
    place_by p ep = rw (ep, e.left, e.below, e.left_over, e.wide, e.tall) (placed i hi)

  -- no place stands twice
  pub once : (i j : ℕ) → i < h * w → j < h * w → get_or (ordered s walk w h) i (at 0 0) ≡ get_or (ordered s walk w h) j (at 0 0) → i ≡ j
  once i j hi hj e = sym (back i hi).2 ∙ ap (λ (p : Place). index_of s rank w h p.x p.y) e ∙ (back j hj).2

  -- where a place stands is the number at which the order finds it
  pub found : (x y r : ℕ) → r < h * w → get_or (ordered s walk w h) r (at 0 0) ≡ at x y → r ≡ find x y (ordered s walk w h)
  found x y r hr e =
      let f = find_there x y (ordered s walk w h) r (omega (arith, ordered_length)) e in
      once r (find x y (ordered s walk w h)) hr (omega (arith, f.0, ordered_length)) (e ∙ sym f.1)
