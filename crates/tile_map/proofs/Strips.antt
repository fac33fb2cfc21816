-- Bytes of tiles, row by row of samples. Assumes nothing.
use Prim.Native.Nat.{ℕ, ◌+◌, ◌*◌, ◌/◌, ◌%◌, ◌≤◌, ◌<◌}
use native.Mathlib.Nat.{mul_assoc, zero-add}
use native.Mathlib.Omega.{arith}
use mathlib.Core.Path.{◌≡◌, refl, sym, ap, ◌∙◌, subst}
use mathlib.Core.Bool.{Bool, true, false, ◌||◌}
use mathlib.Core.List.{List}
use lib.ListN.{length, get_or, replicate, length-replicate, get_or-replicate}
use Rattle.bitstream.specs.Lists.{tabulated}
use Rattle.bitstream.specs.Reading.{choose}
use Rattle.bitstream.proofs.Lists.{tabulated_length, tabulated_at, tabulated_same, tabulated_is}
use Rattle.geometry.specs.Sizes.{squares as tiles}
use Rattle.geometry.specs.Square.{reach}
use Rattle.geometry.proofs.Products.{squares_begin}
use Rattle.tile_map.specs.Tiles.{some, differ, flag, changed_in, strip_map, IsTile, Flags, marked}
use Rattle.tile_map.proofs.Some.{some_more, differ_part}

-- ---- one byte
pub byte_left : (d : Bool) (byte : ℕ) → d ≡ false → byte ≡ choose d 1 byte
byte_left d byte h = rw h

pub flag_small : (b : Bool) → flag b ≤ 1
flag_small true = omega arith
flag_small false = omega arith

flag_or : (a b : Bool) → choose b 1 (flag a) ≡ flag (a || b)
flag_or true true = refl
flag_or true false = refl
flag_or false true = refl
flag_or false false = refl

-- ---- where the tiles of a row lie
module _ (t row x : ℕ) (there : x < tiles t row) (tile : IsTile t) where
  pub column_inside : t * x < row
  column_inside = squares_begin t row x tile.0 there

  pub reach_inside : t * x + reach t row x ≤ row
  reach_inside = omega (arith, column_inside)

  pub reach_eights : row % 8 ≡ 0 → reach t row x % 8 ≡ 0
  reach_eights whole =
      let e : t ≡ 8 * (t / 8) = omega (arith, tile.1) in
      let p : t * x ≡ 8 * (t / 8 * x) = ap (λ (n : ℕ). n * x) e ∙ mul_assoc 8 (t / 8) x in
      omega (arith, tile.1, p)

-- ---- a row of samples that marks tiles
-- the byte of tile x after it
abbrev pub marked_at : (previous new : List ℕ) (from row t : ℕ) → List ℕ → ℕ → ℕ
marked_at previous new from row t map x = choose (differ previous new (from + t * x) (reach t row x)) 1 (get_or map x 0)

module _ (previous new : List ℕ) (from row t : ℕ) (map : List ℕ) where
  pub marked_is : (l : List ℕ) → length l ≡ length map → ((x : ℕ) → x < length map → get_or l x 0 ≡ marked_at previous new from row t map x) → l ≡ marked previous new from row t map
  unfolding marked
  marked_is l e h = tabulated_is (marked_at previous new from row t map) (length map) l e h

  -- a row that is the same marks none
  pub marked_none : IsTile t → length map ≡ tiles t row → differ previous new from row ≡ false → map ≡ marked previous new from row t map
  marked_none tile size same =
      marked_is map refl (λ x l.
      let r = reach_inside t row x (omega (arith, size)) tile in
      byte_left (differ previous new (from + t * x) (reach t row x)) (get_or map x 0) (differ_part previous new from row (from + t * x) (reach t row x) (omega arith) (omega (arith, r)) same))

-- ---- the rows of a strip
module _ (previous new : List ℕ) (from row t : ℕ) where
  pub strip_length : (n : ℕ) → length (strip_map from row n t previous new) ≡ tiles t row
  unfolding strip_map
  strip_length n = tabulated_length _ 0 (tiles t row)

  pub strip_at_law : (n x : ℕ) → x < tiles t row → get_or (strip_map from row n t previous new) x 0 ≡ flag (changed_in from row n t previous new x)
  unfolding strip_map
  strip_at_law n x l = tabulated_at _ 0 (tiles t row) x l ∙ ap (λ (k : ℕ). flag (changed_in from row n t previous new k)) (zero-add x)

  pub strip_flags : (n : ℕ) → Flags (strip_map from row n t previous new)
  strip_flags n x l = subst (λ (v : ℕ). v ≤ 1) (sym (strip_at_law n x (omega (arith, strip_length n)))) (flag_small (changed_in from row n t previous new x))

  pub strip_none : (map : List ℕ) → length map ≡ tiles t row → replicate (length map) 0 ≡ strip_map from row 0 t previous new
  unfolding strip_map changed_in some
  strip_none map e = tabulated_is _ (tiles t row) (replicate (length map) 0) (length-replicate (length map) 0 ∙ e) (λ x l. get_or-replicate (length map) x 0 0 (omega (arith, e)))

  pub strip_more : (r : ℕ) → marked previous new (from + r * row) row t (strip_map from row r t previous new) ≡ strip_map from row (r + 1) t previous new
  unfolding marked changed_in strip_map
  strip_more r =
      let old : List ℕ = strip_map from row r t previous new in
      ap (tabulated (λ x. choose (differ previous new (from + r * row + t * x) (reach t row x)) 1 (get_or old x 0)) 0) (strip_length r)
      ∙ tabulated_same _ _ 0 (tiles t row) (λ j l.
      let k : 0 + j ≡ j = omega arith in
      let d = differ previous new (from + r * row + t * (0 + j)) (reach t row (0 + j)) in
      ap (choose d 1) (strip_at_law r (0 + j) (omega arith))
      ∙ flag_or (changed_in from row r t previous new (0 + j)) d
      ∙ ap flag (sym (some_more r (λ i. differ previous new (from + i * row + t * (0 + j)) (reach t row (0 + j))))))
