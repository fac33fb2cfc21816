-- What the bytes of a map say. Assumes nothing.
use Prim.Native.Nat.{ℕ, suc, ◌+◌, ◌-◌, ◌*◌, ◌/◌, ◌%◌, ◌≤◌, ◌<◌}
use native.Mathlib.Nat.{add-mul, mul-suc, mod-lt, div-add-mod, lt_of_mul-lt-mul_left}
use native.Mathlib.Omega.{arith}
use mathlib.Core.Path.{◌≡◌, refl, sym, ap, ◌∙◌, subst}
use mathlib.Core.Bool.{Bool, true, false, not, false≢true}
use mathlib.Core.List.{List}
use mathlib.Core.Logic.{◌⊎◌, inl, inr}
use borrow.Author.Tests.{eq-eqb, ne_eqb}
use lib.Dec.{eqb}
use lib.ListN.{length, get_or}
use Rattle.geometry.specs.declared.PixelFormat.{PixelFormat}
use Rattle.geometry.specs.Sizes.{across, up, blocks_before, squares as tiles}
use Rattle.geometry.specs.Square.{reach}
use Rattle.geometry.specs.Frame.{block}
use Rattle.geometry.specs.Sample.{sample_at, sample_in}
use Rattle.geometry.proofs.Grids.{even_length, even_at}
use Rattle.geometry.proofs.Products.{squares_reach}
use Rattle.geometry.proofs.Raster.{raster_back}
use Rattle.tile_map.specs.Tiles.{some, differ, flag, changed_in, plane_map, map_length, tile_map}
use Rattle.tile_map.specs.Quiet.{IsOne, byte_of, InTile, InPlane, Differs}
use Rattle.tile_map.proofs.Some.{some_at, some_found, differ_at, differ_found}
use Rattle.tile_map.proofs.Strips.{strip_length, strip_at_law}
use Rattle.tile_map.proofs.Planes.{strip_at}

other_test : (a b : ℕ) → (a ≡ b → ⊥) → not (eqb a b) ≡ true
other_test a b h = ap not (ne_eqb a b h)

other_of : (a b : ℕ) → not (eqb a b) ≡ true → a ≡ b → ⊥
other_of a b h e = false≢true (sym (ap not (eq-eqb a b e)) ∙ h)

flag_1 : (b : Bool) → flag b ≡ 1 → b ≡ true
flag_1 true e = refl
flag_1 false e = absurd (omega arith)

flag_two : (b : Bool) → (flag b ≡ 0) ⊎ (flag b ≡ 1)
flag_two true = inr refl
flag_two false = inl refl

module _ (f : PixelFormat) (w h p t : ℕ) where
  -- where the sample in column c and row r lies
  pub place_of : (c r : ℕ) → sample_at f w h (block p (c / 8) (r / 8)) (c % 8) (r % 8) ≡ 64 * blocks_before f w h p + (r * (8 * across f w p) + c)
  unfolding sample_at sample_in
  place_of c r =
      let ec : 8 * (c / 8) + c % 8 ≡ c = div-add-mod c 8 in
      let er : 8 * (r / 8) + r % 8 ≡ r = div-add-mod r 8 in
      λ i. 64 * blocks_before f w h p + (er i * (8 * across f w p) + ec i)

  -- ---- "Partial tiles at the right and top count as tiles": each sample of the plane lies in one tile
  pub tile_of : 0 < t → (c r : ℕ) → InPlane f w h p t c r → IsOne f w h p t (c / t) (r / t) × InTile f w h p t (c / t) (r / t) c r
  tile_of some c r l =
      let ec : t * (c / t) + c % t ≡ c = div-add-mod c t in
      let er : t * (r / t) + r % t ≡ r = div-add-mod r t in
      let mc = mod-lt c some in
      let mr = mod-lt r some in (
        record { column = squares_reach t (8 * across f w p) (c / t) some (omega (arith, l.column)); row = squares_reach t (8 * up f h p) (r / t) some (omega (arith, l.row)) },
        record { left = omega arith; right = omega arith; bottom = omega arith; top = omega arith },
      )

  -- and in no other
  pub tile_once : (x y x' y' c r : ℕ) → InTile f w h p t x y c r → InTile f w h p t x' y' c r → (x ≡ x') × (y ≡ y')
  tile_once x y x' y' c r a b = (
    same x x' c a.left a.right b.left b.right,
    same y y' r a.bottom a.top b.bottom b.top,
  )
    where
      below : (m n c : ℕ) → t * m ≤ c → c < t * n + t → m < suc n
      below m n c l u = lt_of_mul-lt-mul_left t (omega (arith, mul-suc t n))

      same : (m n c : ℕ) → t * m ≤ c → c < t * m + t → t * n ≤ c → c < t * n + t → m ≡ n
      same m n c lm um ln un = let i = below m n c lm un in let j = below n m c ln um in omega arith

  module _ (previous new : List ℕ) where
    pub map_length_law : length (tile_map f w h p t previous new) ≡ map_length f w h p t
    unfolding tile_map plane_map map_length
    map_length_law =
        let first = 64 * blocks_before f w h p in
        let row = 8 * across f w p in
        even_length (strip_at first row (8 * up f h p) t previous new) (tiles t row) (λ y. strip_length previous new (first + t * y * row) row t (reach t (8 * up f h p) y)) (tiles t (8 * up f h p))

    abbrev changed_at : ℕ → ℕ → Bool
    changed_at x y = changed_in (64 * blocks_before f w h p + t * y * (8 * across f w p)) (8 * across f w p) (reach t (8 * up f h p) y) t previous new x

    byte_is : (x y : ℕ) → IsOne f w h p t x y → byte_of f w h p t previous new x y ≡ flag (changed_at x y)
    unfolding tile_map plane_map
    byte_is x y o =
        let first = 64 * blocks_before f w h p in
        let row = 8 * across f w p in
        let rows = 8 * up f h p in
        even_at (strip_at first row rows t previous new) (tiles t row) (λ k. strip_length previous new (first + t * k * row) row t (reach t rows k)) (tiles t rows) y x 0 o.row o.column
        ∙ strip_at_law previous new (first + t * y * row) row t (reach t rows y) x o.column

    -- every byte is 0 or 1
    pub byte_two : (i : ℕ) → i < map_length f w h p t → (get_or (tile_map f w h p t previous new) i 0 ≡ 0) ⊎ (get_or (tile_map f w h p t previous new) i 0 ≡ 1)
    unfolding map_length
    byte_two i l =
        let n = tiles t (8 * across f w p) in
        let b = raster_back n (tiles t (8 * up f h p)) i l in
        let e = byte_is (i % n) (i / n) (record { column = b.1; row = b.2 }) in
        subst (λ (k : ℕ). (get_or (tile_map f w h p t previous new) k 0 ≡ 0) ⊎ (get_or (tile_map f w h p t previous new) k 0 ≡ 1)) b.3
        (subst (λ (v : ℕ). (v ≡ 0) ⊎ (v ≡ 1)) (sym e) (flag_two (changed_at (i % n) (i / n))))

    module _ (x y : ℕ) (o : IsOne f w h p t x y) where
      -- "1 if some sample of the tile differs"
      pub differs_1 : (c r : ℕ) → InTile f w h p t x y c r → InPlane f w h p t c r → Differs f w h p t previous new c r → byte_of f w h p t previous new x y ≡ 1
      unfolding changed_in
      differs_1 c r i l d =
          let row = 8 * across f w p in
          let from = 64 * blocks_before f w h p + t * y * row in
          let j = r - t * y in
          let a = c - t * x in
          let s : r * row ≡ t * y * row + j * row = ap (λ (n : ℕ). n * row) (let e : r ≡ t * y + j = omega (arith, i.bottom) in e) ∙ add-mul (t * y) j row in
          let e : from + j * row + t * x + a ≡ 64 * blocks_before f w h p + (r * row + c) = omega (arith, s, i.left) in
          let k : from + j * row + t * x + a ≡ sample_at f w h (block p (c / 8) (r / 8)) (c % 8) (r % 8) = e ∙ sym (place_of c r) in
          let test = subst (λ (n : ℕ). not (eqb (get_or previous n 0) (get_or new n 0)) ≡ true) (sym k) (other_test _ _ (λ q. d (sym q))) in
          byte_is x y o ∙ ap flag (some_at (reach t (8 * up f h p) y) (λ r. differ previous new (from + r * row + t * x) (reach t row x)) j
          (omega (arith, i.top, l.row, i.bottom))
          (differ_at previous new (from + j * row + t * x) (reach t row x) a (omega (arith, i.right, l.column, i.left)) test))

      -- "else 0": a tile that is 1 has such a sample
      pub one_differs : byte_of f w h p t previous new x y ≡ 1 → (c : ℕ) × (r : ℕ) × InTile f w h p t x y c r × InPlane f w h p t c r × Differs f w h p t previous new c r
      unfolding changed_in
      one_differs e =
          let row = 8 * across f w p in
          let from = 64 * blocks_before f w h p + t * y * row in
          let one = some_found (reach t (8 * up f h p) y) (λ r. differ previous new (from + r * row + t * x) (reach t row x)) (flag_1 (changed_at x y) (sym (byte_is x y o) ∙ e)) in
          let j = one.0 in
          let two = differ_found previous new (from + j * row + t * x) (reach t row x) one.2 in
          let a = two.0 in
          let s : (t * y + j) * row ≡ t * y * row + j * row = add-mul (t * y) j row in
          let k : from + j * row + t * x + a ≡ 64 * blocks_before f w h p + ((t * y + j) * row + (t * x + a)) = omega (arith, s) in
          let test = subst (λ (n : ℕ). not (eqb (get_or previous n 0) (get_or new n 0)) ≡ true) (k ∙ sym (place_of (t * x + a) (t * y + j))) two.2 in (
            t * x + a,
            t * y + j,
            record { left = omega arith; right = omega (arith, two.1); bottom = omega arith; top = omega (arith, one.1) },
            record { column = omega (arith, two.1); row = omega (arith, one.1) },
            λ q. other_of _ _ test (sym q),
          )

      pub none_0 : ((c r : ℕ) → InTile f w h p t x y c r → InPlane f w h p t c r → Differs f w h p t previous new c r → ⊥) → byte_of f w h p t previous new x y ≡ 0
      none_0 none = by (changed_at x y) refl
        where
          by : (b : Bool) → changed_at x y ≡ b → byte_of f w h p t previous new x y ≡ 0
          by false e = byte_is x y o ∙ ap flag e
          by true e = let d = one_differs (byte_is x y o ∙ ap flag e) in absurd (none d.0 d.1 d.2 d.3 d.4)
