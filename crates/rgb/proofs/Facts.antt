-- Facts for the loops over pixels. Assumes nothing.
use Prim.Native.Nat.{ℕ, zero, suc, ◌+◌, ◌-◌, ◌*◌, ◌/◌, ◌%◌, ◌≤◌, ◌<◌}
use native.Mathlib.Omega.{arith}
use mathlib.Core.Path.{◌≡◌, refl, sym, ap, ◌∙◌, subst}
use mathlib.Core.List.{List, [], ◌∷◌, ◌++◌, append_assoc, append-nil}
use mathlib.Core.Logic.{⊎_elim}
use lib.IntN.{ℤ, pos, ◌+ℤ◌, +ℤ_assoc, +ℤ_comm, +ℤ_idl}
use lib.ListN.{length, get_or, take, set, length-append}
use lib.Seq.{take-suc-set, take-take, take_at, take_all, length-take-le}
use denote.Enum.Declared.{tag_of}
use types.Run.{OneOf}
use Rattle.geometry.specs.declared.PixelFormat.{PixelFormat}
use Rattle.geometry.specs.contracts.PixelFormat as format
use Rattle.geometry.specs.declared.PixelFormat.TheVariants.{Chroma420, Chroma422, Chroma444}
use Rattle.geometry.specs.Order.{in_turn}
use Rattle.geometry.proofs.Lists.{turn_add}
use Rattle.colour_tables.specs.declared.Chroma.{Chroma}
use Rattle.colour_tables.specs.Rule.{luma, red_cr, green_cb, green_cr, blue_cb, entry}
use Rattle.rgb.specs.Pixel.{chroma_of, sum_of, to_byte, colours}
use Rattle.rgb.specs.Picture.{chroma_column, row_of}
use Rattle.rgb.specs.Sums.{pixel_at, Begun, Reaches}
use Rattle.colour_tables.specs.Parts.{of_cb, of_cr, three}
use Rattle.colour_tables.proofs.Parts.{turn_each, turn_more}

-- ---- a pixel
abbrev sums : ℕ → Chroma → List ℤ
sums y c = sum_of y c.red ∷ sum_of y c.green ∷ sum_of y c.blue ∷ []

half_last : (a b l h : ℤ) → a +ℤ (b +ℤ h) +ℤ l ≡ l +ℤ (a +ℤ b) +ℤ h
half_last a b l h = ap (λ (z : ℤ). z +ℤ l) (sym (+ℤ_assoc a b h)) ∙ +ℤ_comm (a +ℤ b +ℤ h) l ∙ sym (+ℤ_assoc l (a +ℤ b) h)

-- the parts of two samples, and luma
pub sum_is : (y cb cr i : ℕ) → i < 3 → get_or (three (of_cb cb)) i (pos 0) +ℤ get_or (three (of_cr cr)) i (pos 0) +ℤ entry luma y ≡ get_or (sums y (chroma_of cb cr)) i (pos 0)
unfolding sum_of
sum_is y cb cr zero h = half_last (pos 0) (entry red_cr cr) (entry luma y) (pos 32768) ∙ ap (λ (z : ℤ). entry luma y +ℤ z +ℤ pos 32768) (+ℤ_idl (entry red_cr cr))
sum_is y cb cr (suc zero) h = half_last (entry green_cb cb) (entry green_cr cr) (entry luma y) (pos 32768)
sum_is y cb cr (suc (suc zero)) h = +ℤ_comm (entry blue_cb cb +ℤ pos 32768) (entry luma y) ∙ sym (+ℤ_assoc (entry luma y) (entry blue_cb cb) (pos 32768))
sum_is y cb cr (suc (suc (suc i))) h = absurd (omega (arith, h))

-- byte j of those that are put for a pixel
abbrev pub laid : (y cb cr : ℕ) → ℕ → List ℕ
laid y cb cr j = to_byte (get_or (sums y (chroma_of cb cr)) (j % 3) (pos 0)) ∷ []

three_laid : (y cb cr : ℕ) → in_turn (laid y cb cr) 3 ≡ colours y cb cr
unfolding in_turn to_byte colours
three_laid y cb cr = refl

module _ (y cb cr at : ℕ) (l : List ℕ) where
  pub no_bytes : take (at + 0) l ≡ take at l ++ in_turn (laid y cb cr) 0
  unfolding in_turn
  no_bytes = let e : at + 0 ≡ at = omega arith in ap (λ (n : ℕ). take n l) e ∙ sym (append-nil (take at l))

  pub byte_more : (out : List ℕ) (j b : ℕ) → at + j < length out → b ∷ [] ≡ laid y cb cr j → take (at + j) out ≡ take at l ++ in_turn (laid y cb cr) j
      → take (at + (j + 1)) (set out (at + j) b) ≡ take at l ++ in_turn (laid y cb cr) (j + 1)
  byte_more out j b h eb e =
      let n : at + (j + 1) ≡ suc (at + j) = omega arith in
      ap (λ (z : ℕ). take z (set out (at + j) b)) n
      ∙ take-suc-set out (at + j) b h
      ∙ (λ i. e i ++ eb i)
      ∙ append_assoc (take at l) (in_turn (laid y cb cr) j) (laid y cb cr j)
      ∙ ap (λ (t : List ℕ). take at l ++ t) (sym (turn_more (laid y cb cr) j))

  -- the first three of them are its colours
  pub bytes_done : (out : List ℕ) (n : ℕ) → 3 ≤ n → at ≤ length l → take (at + n) out ≡ take at l ++ in_turn (laid y cb cr) n → take (at + 3) out ≡ take at l ++ colours y cb cr
  bytes_done out n h room e =
      let m = n - 3 in
      let en : n ≡ 3 + m = omega (arith, h) in
      let rest = in_turn (λ j. laid y cb cr (3 + j)) m in
      let size : length (take at l ++ in_turn (laid y cb cr) 3) ≡ at + 3 = length-append (take at l) (in_turn (laid y cb cr) 3) ∙ omega (arith, length-take-le at l room, turn_each (laid y cb cr) 1 3 (λ i. refl)) in
      sym (take-take (at + 3) (at + n) out (omega (arith, h)))
      ∙ ap (λ (t : List ℕ). take (at + 3) t) e
      ∙ ap (λ (z : ℕ). take (at + 3) (take at l ++ in_turn (laid y cb cr) z)) en
      ∙ ap (λ (t : List ℕ). take (at + 3) (take at l ++ t)) (turn_add (laid y cb cr) 3 m)
      ∙ ap (λ (t : List ℕ). take (at + 3) t) (sym (append_assoc (take at l) (in_turn (laid y cb cr) 3) rest))
      ∙ take_at (take at l ++ in_turn (laid y cb cr) 3) rest (at + 3) size
      ∙ ap (λ (t : List ℕ). take at l ++ t) (three_laid y cb cr)

-- ---- rows that are begun
module _ (column : ℕ → ℕ) (luma cb cr : List ℕ) where
  pub none_begun : (out : List ℕ) → Begun column luma cb cr 0 out
  unfolding in_turn
  none_begun out = refl

  pub pixel_more : (x u at : ℕ) (out new : List ℕ) → at ≡ 3 * x → u ≡ column x → Begun column luma cb cr x out
      → take (at + 3) new ≡ take at out ++ colours (get_or luma x 0) (get_or cb u 0) (get_or cr u 0) → Begun column luma cb cr (x + 1) new
  pixel_more x u at out new ea eu e en =
      let n : 3 * (x + 1) ≡ at + 3 = omega (arith, ea) in
      ap (λ (z : ℕ). take z new) n ∙ en
      ∙ (λ i. take (ea i) out ++ colours (get_or luma x 0) (get_or cb (eu i) 0) (get_or cr (eu i) 0))
      ∙ ap (λ (t : List ℕ). t ++ pixel_at column luma cb cr x) e
      ∙ sym (turn_more (pixel_at column luma cb cr) x)

  pub row_done : (x : ℕ) (out : List ℕ) → x ≡ length luma → length out ≡ 3 * length luma → Begun column luma cb cr x out → out ≡ row_of column luma cb cr
  unfolding row_of
  row_done x out e h b = sym (take_all (3 * x) out (omega (arith, e, h))) ∙ b ∙ ap (in_turn (pixel_at column luma cb cr)) e

-- two pixels more, which share their chroma samples
pub pair_more : (luma cb cr : List ℕ) (k : ℕ) (out mid new : List ℕ) → Begun (λ x. x / 2) luma cb cr (2 * k) out
    → take (6 * k + 3) mid ≡ take (6 * k) out ++ colours (get_or luma (2 * k) 0) (get_or cb k 0) (get_or cr k 0)
    → take (6 * k + 3 + 3) new ≡ take (6 * k + 3) mid ++ colours (get_or luma (2 * k + 1) 0) (get_or cb k 0) (get_or cr k 0)
    → Begun (λ x. x / 2) luma cb cr (2 * (k + 1)) new
pair_more luma cb cr k out mid new b em en =
    let two : 2 * k + 1 + 1 ≡ 2 * (k + 1) = omega arith in
    let one = pixel_more (λ x. x / 2) luma cb cr (2 * k) k (6 * k) out mid (omega arith) (omega arith) b em in
    let more = pixel_more (λ x. x / 2) luma cb cr (2 * k + 1) k (6 * k + 3) mid new (omega arith) (omega arith) one en in
    subst (λ (n : ℕ). Begun (λ x. x / 2) luma cb cr n new) two more

-- ---- the two ways, by the format
pub pairs_are : (f : PixelFormat) (luma cb cr : List ℕ) → OneOf (0 ∷ 1 ∷ []) (tag_of format.the_type f) → row_of (λ x. x / 2) luma cb cr ≡ row_of (chroma_column f) luma cb cr
pairs_are Chroma420 luma cb cr o = refl
pairs_are Chroma422 luma cb cr o = refl
pairs_are Chroma444 luma cb cr o = absurd (⊎_elim (λ z. omega (arith, z)) (λ z. omega (arith, z)) o)

-- the chroma samples are there
reach_pairs : (n b : ℕ) → ((x : ℕ) → x < n → x / 2 < b) → n % 2 ≡ 0 → n ≤ 2 * b
reach_pairs zero b r e = omega arith
reach_pairs (suc n) b r e = omega (arith, r n (omega arith), e)

pub pairs_reach : (f : PixelFormat) (n b c : ℕ) → OneOf (0 ∷ 1 ∷ []) (tag_of format.the_type f) → Reaches f n b c → n % 2 ≡ 0 → (n ≤ 2 * b) × (n ≤ 2 * c)
pairs_reach Chroma420 n b c o r e = (reach_pairs n b (λ x h. (r x h).0) e, reach_pairs n c (λ x h. (r x h).1) e)
pairs_reach Chroma422 n b c o r e = (reach_pairs n b (λ x h. (r x h).0) e, reach_pairs n c (λ x h. (r x h).1) e)
pairs_reach Chroma444 n b c o r e = absurd (⊎_elim (λ z. omega (arith, z)) (λ z. omega (arith, z)) o)

reach_singles : (n b : ℕ) → ((x : ℕ) → x < n → x < b) → n ≤ b
reach_singles zero b r = omega arith
reach_singles (suc n) b r = omega (arith, r n (omega arith))

pub singles_reach : (f : PixelFormat) (n b c : ℕ) → f ≡ Chroma444 → Reaches f n b c → (n ≤ b) × (n ≤ c)
singles_reach f n b c e r =
    let q : Reaches Chroma444 n b c = subst (λ (g : PixelFormat). Reaches g n b c) e r in
    (reach_singles n b (λ x h. (q x h).0), reach_singles n c (λ x h. (q x h).1))

pub singles_are : (f : PixelFormat) (luma cb cr : List ℕ) → f ≡ Chroma444 → row_of (λ x. x) luma cb cr ≡ row_of (chroma_column f) luma cb cr
singles_are f luma cb cr e = sym (ap (λ (g : PixelFormat). row_of (chroma_column g) luma cb cr) e)
