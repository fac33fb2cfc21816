-- Rows of planes and of pictures. Assumes nothing.
use Prim.Native.Nat.{ℕ, suc, ◌+◌, ◌-◌, ◌*◌, ◌/◌, ◌%◌, ◌≤◌, ◌<◌}
use native.Mathlib.Nat.{zero-mul, suc-mul, sub_self, mul-le-mul_right, mul-mul-mul_comm, le_trans, le_of_eq}
use native.Mathlib.Omega.{arith}
use mathlib.Core.Path.{◌≡◌, refl, sym, ap, ◌∙◌, subst}
use mathlib.Core.List.{List, ◌++◌}
use lib.ListN.{length, get_or, take, drop, length-drop}
use lib.Seq.{length-take-le, get_or-take, get_or-drop}
use borrow.Rule.Slice.PartMut.{put_mid}
use Rattle.geometry.specs.declared.PixelFormat.{PixelFormat}
use Rattle.geometry.specs.declared.PixelFormat.TheVariants.{Chroma420, Chroma422, Chroma444}
use Rattle.geometry.specs.declared.Plane.{Plane}
use Rattle.geometry.specs.Sizes.{across, up, plane_blocks, blocks_of, blocks_before, plane_of}
use Rattle.geometry.specs.Order.{in_turn}
use Rattle.geometry.specs.Frame.{block}
use Rattle.geometry.specs.Sample.{sample_in, sample_at}
use Rattle.geometry.proofs.Lists.{turn_same}
use Rattle.geometry.proofs.SizeLaws.{before_next, before_to, sizes_small}
use Rattle.output.specs.Output.{spliced}
use Rattle.output.proofs.Splices.{spliced_none, spliced_next, spliced_part}
use Rattle.rgb.specs.declared.Run.{Run}
use Rattle.rgb.specs.Pixel.{colours}
use Rattle.rgb.specs.Picture.{chroma_column, chroma_row, row_of, sample, pixel, picture_row, picture}
use Rattle.rgb.specs.Sums.{Reaches, RunOf}
use Rattle.colour_tables.proofs.Parts.{turn_each, turn_more}

-- ---- a row of a plane lies in the buffer
row_fits : (y rows row : ℕ) → y < rows → y * row + row ≤ rows * row
row_fits y rows row h = le_trans (le_of_eq (omega (arith, suc-mul y row))) (mul-le-mul_right row h)

module _ (f : PixelFormat) (w h p y : ℕ) (hp : p < 3) (hy : y < 8 * up f h p) where
  pub row_inside : 64 * blocks_before f w h p + y * (8 * across f w p) + 8 * across f w p ≤ 64 * blocks_of f w h
  row_inside =
      let r = row_fits y (8 * up f h p) (8 * across f w p) hy in
      let a : 8 * up f h p * (8 * across f w p) ≡ 64 * plane_blocks f w h p = mul-mul-mul_comm 8 (up f h p) 8 (across f w p) in
      omega (arith, r, a, before_next f w h p, before_to f w h p hp)

  -- as a program comes to it, from the plane q
  module _ (hw : w ≤ 65535) (hh : h ≤ 65535) (q : Plane) (e : q ≡ plane_of f w h p) where
    pub run_small : q.offset + y * (8 * q.across) + 8 * q.across ≤ 3298434220800
    run_small = rw e (omega (arith, row_inside, (sizes_small f w h hw hh).buffer))

    pub run_by : RunOf f w h p y (record { start = q.offset + y * (8 * q.across); end = q.offset + y * (8 * q.across) + 8 * q.across })
    run_by = record {
      start = ap (λ (v : Plane). v.offset + y * (8 * v.across)) e;
      end = ap (λ (v : Plane). q.offset + y * (8 * q.across) + 8 * v.across) (sym e);
      inside = subst (λ (v : Plane). v.offset + y * (8 * v.across) + 8 * v.across ≤ 64 * blocks_of f w h) (sym e) row_inside;
    }

-- the row of the chroma samples is one of the plane
pub chroma_row_below : (f : PixelFormat) (h y p : ℕ) → y < 16 * h → chroma_row f y < 8 * up f h (suc p)
chroma_row_below Chroma420 h y p l = omega arith
chroma_row_below Chroma422 h y p l = omega arith
chroma_row_below Chroma444 h y p l = omega arith

chroma_column_below : (f : PixelFormat) (w x p : ℕ) → x < 16 * w → chroma_column f x < 8 * across f w (suc p)
chroma_column_below Chroma420 w x p l = omega arith
chroma_column_below Chroma422 w x p l = omega arith
chroma_column_below Chroma444 w x p l = omega arith

-- ---- a part of a slice
pub part_length : (l : List ℕ) (at n : ℕ) → at + n ≤ length l → length (take (at + n - at) (drop at l)) ≡ n
part_length l at n h =
    let k : at + n - at ≡ n = omega arith in
    ap (λ (m : ℕ). length (take m (drop at l))) k ∙ length-take-le n (drop at l) (subst (λ (m : ℕ). n ≤ m) (sym (length-drop at l)) (omega arith))

-- ---- a run of the buffer
abbrev pub piece : List ℕ → Run → List ℕ
piece l r = take (r.end - r.start) (drop r.start l)

module _ (l : List ℕ) (r : Run) (n : ℕ) (e : r.start + n ≡ r.end) where
  pub piece_length : r.end ≤ length l → length (piece l r) ≡ n
  piece_length h = ap (λ (m : ℕ). length (take (m - r.start) (drop r.start l))) (sym e) ∙ part_length l r.start n (omega arith)

  piece_at : (x : ℕ) → x < n → get_or (piece l r) x 0 ≡ get_or l (r.start + x) 0
  piece_at x h = get_or-take (r.end - r.start) (drop r.start l) x 0 (omega arith) ∙ get_or-drop r.start l x 0

-- ---- a row of a picture
module _ (f : PixelFormat) (w h : ℕ) (planes : List ℕ) (whole : length planes ≡ 64 * blocks_of f w h) where
  sample_in_law : (p x y : ℕ) (r : Run) → RunOf f w h p y r → x < 8 * across f w p → get_or (piece planes r) x 0 ≡ sample f w h planes p x y
  sample_in_law p x y r o l =
      let e : r.start + x ≡ 64 * blocks_before f w h p + (y * (8 * across f w p) + x) = omega (arith, o.start) in
      piece_at planes r (8 * across f w p) o.end x l ∙ ap (λ (k : ℕ). get_or planes k 0) e

  pub run_length : (p y : ℕ) (r : Run) → RunOf f w h p y r → length (piece planes r) ≡ 8 * across f w p
  run_length p y r o = piece_length planes r (8 * across f w p) o.end (omega (arith, o.inside, whole))

  module _ (y : ℕ) (a b c : Run) (oa : RunOf f w h 0 y a) (ob : RunOf f w h 1 (chroma_row f y) b) (oc : RunOf f w h 2 (chroma_row f y) c) where
    pub runs_reach : Reaches f (length (piece planes a)) (length (piece planes b)) (length (piece planes c))
    runs_reach x l =
        let k : x < 16 * w = omega (arith, run_length 0 y a oa) in
        (omega (arith, chroma_column_below f w x 0 k, run_length 1 (chroma_row f y) b ob), omega (arith, chroma_column_below f w x 1 k, run_length 2 (chroma_row f y) c oc))

    pub picture_row_law : row_of (chroma_column f) (piece planes a) (piece planes b) (piece planes c) ≡ picture_row f w h planes y
    unfolding row_of picture_row
    picture_row_law =
        let n : length (piece planes a) ≡ 16 * w = omega (arith, run_length 0 y a oa) in
        ap (in_turn (λ x. colours (get_or (piece planes a) x 0) (get_or (piece planes b) (chroma_column f x) 0) (get_or (piece planes c) (chroma_column f x) 0))) n
        ∙ turn_same _ (λ x. pixel f w h planes x y) (16 * w) (λ x l.
        let s0 = sample_in_law 0 x y a oa (omega arith) in
        let s1 = sample_in_law 1 (chroma_column f x) (chroma_row f y) b ob (chroma_column_below f w x 0 l) in
        let s2 = sample_in_law 2 (chroma_column f x) (chroma_row f y) c oc (chroma_column_below f w x 1 l) in
        λ i. colours (s0 i) (s1 i) (s2 i))

-- ---- the rows of a picture, from the top
module _ (f : PixelFormat) (w h : ℕ) (planes : List ℕ) where
  colours_length : (y cb cr : ℕ) → length (colours y cb cr) ≡ 3
  unfolding colours
  colours_length y cb cr = refl

  row_length : (y : ℕ) → length (picture_row f w h planes y) ≡ 48 * w
  unfolding picture_row
  row_length y = turn_each (λ x. pixel f w h planes x y) 3 (16 * w) (λ x. colours_length _ _ _) ∙ omega arith

  abbrev pub row_from : ℕ → List ℕ
  row_from r = picture_row f w h planes (16 * h - 1 - r)

  pub rows_length : (n : ℕ) → length (in_turn row_from n) ≡ n * (48 * w)
  rows_length n = turn_each row_from (48 * w) n (λ r. row_length (16 * h - 1 - r))

  pub picture_length : length (picture f w h planes) ≡ 768 * (h * w)
  unfolding picture
  picture_length = rows_length (16 * h) ∙ mul-mul-mul_comm 16 h 48 w

  pub picture_is : in_turn row_from (16 * h) ≡ picture f w h planes
  unfolding picture
  picture_is = refl

  -- the loop over rows: at first all are left
  pub no_rows : (l : List ℕ) → (0 ≡ (16 * h - 16 * h) * (48 * w)) × (l ≡ spliced 0 (in_turn row_from (16 * h - 16 * h)) l)
  unfolding in_turn
  no_rows l =
      let z = sub_self (16 * h) in
      (sym (ap (λ (n : ℕ). n * (48 * w)) z ∙ zero-mul (48 * w)), sym (ap (λ (n : ℕ). spliced 0 (in_turn row_from n) l) z ∙ spliced_none 0 l))

  -- y rows are left
  module _ (y at : ℕ) (some : 0 < y) (left : y ≤ 16 * h) (e : at ≡ (16 * h - y) * (48 * w)) where
    pub row_room : (room : ℕ) → 768 * (h * w) ≤ room → at + 48 * w ≤ room
    row_room room r =
        let k = row_fits (16 * h - y) (16 * h) (48 * w) (omega arith) in
        subst (λ (n : ℕ). n + 48 * w ≤ room) (sym e) (le_trans k (le_trans (le_of_eq (mul-mul-mul_comm 16 h 48 w)) r))

    down : 16 * h - (y - 1) ≡ 16 * h - y + 1
    down = omega arith

    pub row_next : at + 48 * w ≡ (16 * h - (y - 1)) * (48 * w)
    row_next = ap (λ (n : ℕ). n + 48 * w) e ∙ sym (ap (λ (n : ℕ). n * (48 * w)) down ∙ next (16 * h - y) (48 * w))
      where
        next : (n k : ℕ) → (n + 1) * k ≡ n * k + k
        next n k = ap (λ (m : ℕ). m * k) (omega arith) ∙ suc-mul n k

    pub rows_more : (l m mid : List ℕ) → 768 * (h * w) ≤ length l → m ≡ spliced 0 (in_turn row_from (16 * h - y)) l → mid ≡ picture_row f w h planes (y - 1)
        → put_mid at (at + 48 * w - at) m mid ≡ spliced 0 (in_turn row_from (16 * h - (y - 1))) l
    rows_more l m mid r em ed =
        let n = 16 * h - y in
        let size : length mid ≡ 48 * w = ap (λ (v : List ℕ). length v) ed ∙ row_length (y - 1) in
        let back : y - 1 ≡ 16 * h - 1 - n = omega arith in
        let rows : length (in_turn row_from n) ≡ at = rows_length n ∙ sym e in
        spliced_part at (at + 48 * w) mid m (ap (λ (k : ℕ). at + k) size)
        ∙ spliced_next 0 at (in_turn row_from n) mid l m em (omega (arith, rows)) (omega (arith, rows, size, row_room (length l) r))
        ∙ ap (λ (v : List ℕ). spliced 0 (in_turn row_from n ++ v) l) (ed ∙ ap (picture_row f w h planes) back)
        ∙ ap (λ (v : List ℕ). spliced 0 v l) (sym (turn_more row_from n))
        ∙ ap (λ (k : ℕ). spliced 0 (in_turn row_from k) l) (sym down)

-- ---- the samples are those of the specification: column x % 8 and row y % 8 of block (x / 8, y / 8)
pub sample_lies : (f : PixelFormat) (w h : ℕ) (planes : List ℕ) (p x y : ℕ) → sample f w h planes p x y ≡ get_or planes (sample_at f w h (block p (x / 8) (y / 8)) (x % 8) (y % 8)) 0
unfolding sample_at sample_in
sample_lies f w h planes p x y =
    let ex : x ≡ 8 * (x / 8) + x % 8 = omega arith in
    let ey : y ≡ 8 * (y / 8) + y % 8 = omega arith in
    λ i. get_or planes (64 * blocks_before f w h p + (ey i * (8 * across f w p) + ex i)) 0
