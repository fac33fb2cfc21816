-- Records that start at what mode 0 says: a macro block of mode 0 changes nothing, and in the end nothing shows how they started. Assumes nothing.
use Prim.Native.Nat.{ℕ, zero, suc, ◌+◌, ◌<◌}
use native.Mathlib.Omega.{arith}
use native.Mathlib.Nat.{add-zero, le_of_suc-le-suc, not-suc-le-zero}
use native.Mathlib.Numerals.{add-one}
use mathlib.Core.Path.{◌≡◌, refl, sym, ap, ap₂, ◌∙◌, subst}
use mathlib.Core.List.Memᴰ
use mathlib.Core.List.{List, [], ◌∷◌, map, Memᴰ}
use mathlib.Core.Logic.{⊎_elim}
use mathlib.Core.Bool.{Bool, true, false}
use lib.Dec.{eqb}
use lib.ListN.{length, get_or, set, length-set, length-map, get_or-map}
use lib.Seq.{set-get_or, get_or-set_other, ext_get_or}
use borrow.Author.Tests.{eqb-true, eqb-false}
use Rattle.bitstream.specs.Reading.{Outcome, got, refused, choose}
use Rattle.geometry.specs.declared.PixelFormat.{PixelFormat}
use Rattle.geometry.specs.declared.PixelFormat.TheVariants.{Chroma420, Chroma422, Chroma444}
use Rattle.geometry.specs.declared.Place.{Place}
use Rattle.geometry.specs.declared.Block.{Block}
use Rattle.geometry.specs.Sizes.{across, up, macro_blocks_of, blocks_of, blocks_each}
use Rattle.geometry.specs.Order.{at, coded_macros, macro_walk}
use Rattle.geometry.specs.Rank.{rank_in}
use Rattle.geometry.specs.Frame.{block, InFrame}
use Rattle.geometry.specs.Macro.{blocks_of_macro, macro_in, macro_of}
use Rattle.geometry.specs.Raster.{raster_number, block_no}
use Rattle.geometry.proofs.Orders.{index_of}
use Rattle.geometry.proofs.PlaneOrders.{macro_order}
use Rattle.geometry.proofs.MacroLaws.{macro_length, in_its_macro, macro_of_element, element_in_frame}
use Rattle.geometry.proofs.RasterLaws.{block_at_number, number_of_block}
use Rattle.block_record.specs.declared.Prediction.{Prediction}
use Rattle.block_record.specs.declared.Prediction.TheVariants.{None}
use Rattle.block_record.specs.declared.BlockRecord.{BlockRecord}
use Rattle.block_record.specs.Record.{with_prediction, uncoded}
use Rattle.block_record.specs.Packed.{unpacked}
use Rattle.block_record.specs.Memory.{AllPacked, records_of}
use Rattle.motion.specs.declared.Motion.{Motion}
use Rattle.motion.specs.declared.Motion.TheVariants.{One}
use Rattle.motion.specs.declared.Moved.{Moved}
use Rattle.motion_reader.specs.Motion.{motion, prediction_of}
use Rattle.motion.specs.Kept.{zero_vector, unmoved, predicted_as, started}
use Rattle.vectors.specs.Vectors.{number_in, coded_in, predicted_at, predicted_from, VectorState, macro_block, macro_blocks}
use Rattle.vectors.specs.Memory.{state_of}
use Rattle.vectors.specs.Start.{Waiting}
use Rattle.motion_reader.proofs.Motions.{motion_still}
use Rattle.motion.proofs.Kept.{still_nomv, started_packed, started_record}
use Rattle.vectors.proofs.Records.{moves, moved_to, macro_end, macro_moved}

-- ---- one record
module _ (p : Prediction) (r : BlockRecord) where
  as_coded : (predicted_as p r).coded ≡ r.coded
  as_coded = go r.coded
    where
      go : (b : Bool) → (choose b (with_prediction p r) r).coded ≡ r.coded
      go true = refl
      go false = refl

  -- the last prediction counts
  as_again : (q : Prediction) → predicted_as p (predicted_as q r) ≡ predicted_as p r
  as_again q = go r.coded refl
    where
      go : (b : Bool) → r.coded ≡ b → predicted_as p (choose b (with_prediction q r) r) ≡ choose b (with_prediction p r) r
      go true e = rw e
      go false e = rw e

  as_was : (r.coded ≡ true → r.prediction ≡ p) → predicted_as p r ≡ r
  as_was = go r.coded
    where
      go : (b : Bool) → (b ≡ true → r.prediction ≡ p) → choose b (with_prediction p r) r ≡ r
      go true h = λ i. record { coded = r.coded; qi_index = r.qi_index; prediction = sym (h refl) i }
      go false h = refl

  as_given : (predicted_as p r).coded ≡ true → (predicted_as p r).prediction ≡ p
  as_given h = go r.coded (sym as_coded ∙ h)
    where
      go : (b : Bool) → b ≡ true → (choose b (with_prediction p r) r).prediction ≡ p
      go true e = refl
      go false e = let z : ◌≡◌ {A = ℕ} 0 1 = cc in absurd (omega arith)

-- ---- the loop over all numbers: the first n have started
abbrev pub started_to : ℕ → List ℕ → List ℕ
started_to zero l = l
started_to (suc n) [] = []
started_to (suc n) (x ∷ l) = started x ∷ started_to n l

pub not_yet : (n : ℕ) (l : List ℕ) → get_or (started_to n l) n 0 ≡ get_or l n 0
not_yet zero l = refl
not_yet (suc n) [] = refl
not_yet (suc n) (x ∷ l) = not_yet n l

one_more : (n : ℕ) (l : List ℕ) → n < length l → set (started_to n l) n (started (get_or l n 0)) ≡ started_to (suc n) l
one_more n [] h = absurd (not-suc-le-zero h)
one_more zero (x ∷ l) h = refl
one_more (suc n) (x ∷ l) h = ap (λ (t : List ℕ). started x ∷ t) (one_more n l (le_of_suc-le-suc h))

pub start_turn : (l s : List ℕ) (n v : ℕ) → n < length l → s ≡ started_to n l → v ≡ started (get_or s n 0) → set s n v ≡ started_to (n + 1) l
start_turn l s n v h e g =
    ap₂ (λ (t : List ℕ) (x : ℕ). set t n x) e (g ∙ ap started (ap (λ (t : List ℕ). get_or t n 0) e ∙ not_yet n l))
    ∙ one_more n l h
    ∙ ap (λ (k : ℕ). started_to k l) (sym (add-one n))

pub start_end : (l : List ℕ) → started_to (length l) l ≡ map started l
start_end [] = refl
start_end (x ∷ l) = ap (λ (t : List ℕ). started x ∷ t) (start_end l)

started_all : (l : List ℕ) → AllPacked l → (records_of (map started l) ≡ map (predicted_as unmoved) (records_of l)) × AllPacked (map started l)
unfolding AllPacked
started_all [] a = (refl, tt)
started_all (n ∷ l) a =
    let r = started_all l a.1 in
    (ap₂ (λ (x : BlockRecord) (t : List BlockRecord). x ∷ t) (started_record n a.0) r.0, (started_packed n a.0, r.1))

-- ---- two lists of one length, in which an element is set
module _ {A : Type 0} (P : A → A → Type 0) where
  set_both : (l m : List A) (b n : ℕ) (v u d : A) → length l ≡ length m → P v u → P (get_or l n d) (get_or m n d) → P (get_or (set l b v) n d) (get_or (set m b u) n d)
  set_both [] [] b n v u d e new old = old
  set_both [] (y ∷ m) b n v u d e new old = absurd (omega arith)
  set_both (x ∷ l) [] b n v u d e new old = absurd (omega arith)
  set_both (x ∷ l) (y ∷ m) zero zero v u d e new old = new
  set_both (x ∷ l) (y ∷ m) zero (suc n) v u d e new old = old
  set_both (x ∷ l) (y ∷ m) (suc b) zero v u d e new old = old
  set_both (x ∷ l) (y ∷ m) (suc b) (suc n) v u d e new old = set_both l m b n v u d (omega arith) new old

set_there : {A : Type 0} (l m : List A) (b : ℕ) (v u d : A) → length l ≡ length m → v ≡ u → get_or (set l b v) b d ≡ get_or (set m b u) b d
set_there [] [] b v u d e new = refl
set_there [] (y ∷ m) b v u d e new = absurd (omega arith)
set_there (x ∷ l) [] b v u d e new = absurd (omega arith)
set_there (x ∷ l) (y ∷ m) zero v u d e new = new
set_there (x ∷ l) (y ∷ m) (suc b) v u d e new = set_there l m b v u d (omega arith) new

-- ---- records that a prediction makes the same
abbrev Like : List BlockRecord → List BlockRecord → Type 0
Like rs ss = (length rs ≡ length ss) × ((n : ℕ) (p : Prediction) → predicted_as p (get_or rs n uncoded) ≡ predicted_as p (get_or ss n uncoded))

module _ (i : ℕ) (p : Prediction) (rs ss : List BlockRecord) (s : Like rs ss) where
  at_like : Like (predicted_at i p rs) (predicted_at i p ss)
  unfolding predicted_at
  at_like = (
    length-set rs i _ ∙ s.0 ∙ sym (length-set ss i _),
    λ n q. set_both (λ x y. predicted_as q x ≡ predicted_as q y) rs ss i n (predicted_as p (get_or rs i uncoded)) (predicted_as p (get_or ss i uncoded)) uncoded s.0 (ap (predicted_as q) (s.1 i p)) (s.1 n q),
  )

  at_same : (n : ℕ) → get_or rs n uncoded ≡ get_or ss n uncoded → get_or (predicted_at i p rs) n uncoded ≡ get_or (predicted_at i p ss) n uncoded
  unfolding predicted_at
  at_same n e = set_both (λ x y. x ≡ y) rs ss i n (predicted_as p (get_or rs i uncoded)) (predicted_as p (get_or ss i uncoded)) uncoded s.0 (s.1 i p) e

  at_new : get_or (predicted_at i p rs) i uncoded ≡ get_or (predicted_at i p ss) i uncoded
  unfolding predicted_at
  at_new = set_there rs ss i (predicted_as p (get_or rs i uncoded)) (predicted_as p (get_or ss i uncoded)) uncoded s.0 (s.1 i p)

at_other : (i : ℕ) (p : Prediction) (rs : List BlockRecord) (n : ℕ) → (i ≡ n → ⊥) → get_or (predicted_at i p rs) n uncoded ≡ get_or rs n uncoded
unfolding predicted_at
at_other i p rs n o = get_or-set_other rs i n (predicted_as p (get_or rs i uncoded)) uncoded (λ e. o (sym e))

at_was : (i : ℕ) (p : Prediction) (rs : List BlockRecord) → ((get_or rs i uncoded).coded ≡ true → (get_or rs i uncoded).prediction ≡ p) → predicted_at i p rs ≡ rs
unfolding predicted_at
at_was i p rs h = ap (set rs i) (as_was p (get_or rs i uncoded) h) ∙ set-get_or rs i uncoded

-- ---- the blocks of a macro block
module _ (f : PixelFormat) (w h : ℕ) (q : Place) (m : Motion) where
  abbrev after : ℕ → ℕ → List BlockRecord → List BlockRecord
  after n k rs = predicted_from f w h q m n k rs

  abbrev next : ℕ → List BlockRecord → List BlockRecord
  next k rs = predicted_at (number_in f w h q k) (prediction_of f m k) rs

  from_length : (n k : ℕ) (rs : List BlockRecord) → length (after n k rs) ≡ length rs
  unfolding predicted_from predicted_at
  from_length zero k rs = refl
  from_length (suc n) k rs = from_length n (k + 1) (next k rs) ∙ length-set rs (number_in f w h q k) _

  from_like : (n k : ℕ) (rs ss : List BlockRecord) → Like rs ss → Like (after n k rs) (after n k ss)
  unfolding predicted_from
  from_like zero k rs ss s = s
  from_like (suc n) k rs ss s = from_like n (k + 1) (next k rs) (next k ss) (at_like (number_in f w h q k) (prediction_of f m k) rs ss s)

  from_same : (n k : ℕ) (rs ss : List BlockRecord) → Like rs ss → (i : ℕ) → get_or rs i uncoded ≡ get_or ss i uncoded → get_or (after n k rs) i uncoded ≡ get_or (after n k ss) i uncoded
  unfolding predicted_from
  from_same zero k rs ss s i e = e
  from_same (suc n) k rs ss s i e =
      from_same n (k + 1) (next k rs) (next k ss) (at_like (number_in f w h q k) (prediction_of f m k) rs ss s) i (at_same (number_in f w h q k) (prediction_of f m k) rs ss s i e)

  from_new : (n k d : ℕ) → d < n → (rs ss : List BlockRecord) → Like rs ss → get_or (after n k rs) (number_in f w h q (k + d)) uncoded ≡ get_or (after n k ss) (number_in f w h q (k + d)) uncoded
  unfolding predicted_from
  from_new zero k d l rs ss s = absurd (omega arith)
  from_new (suc n) k zero l rs ss s =
      subst (λ (j : ℕ). get_or (after n (k + 1) (next k rs)) (number_in f w h q j) uncoded ≡ get_or (after n (k + 1) (next k ss)) (number_in f w h q j) uncoded) (sym (add-zero k))
      (from_same n (k + 1) (next k rs) (next k ss) (at_like (number_in f w h q k) (prediction_of f m k) rs ss s) (number_in f w h q k) (at_new (number_in f w h q k) (prediction_of f m k) rs ss s))
  from_new (suc n) k (suc d) l rs ss s =
      let e : k + 1 + d ≡ k + suc d = omega arith in
      subst (λ (j : ℕ). get_or (after n (k + 1) (next k rs)) (number_in f w h q j) uncoded ≡ get_or (after n (k + 1) (next k ss)) (number_in f w h q j) uncoded) e
      (from_new n (k + 1) d (omega arith) (next k rs) (next k ss) (at_like (number_in f w h q k) (prediction_of f m k) rs ss s))

  from_other : (n k : ℕ) (rs : List BlockRecord) (i : ℕ) → ((d : ℕ) → d < n → number_in f w h q (k + d) ≡ i → ⊥) → get_or (after n k rs) i uncoded ≡ get_or rs i uncoded
  unfolding predicted_from
  from_other zero k rs i o = refl
  from_other (suc n) k rs i o =
      from_other n (k + 1) (next k rs) i (λ d l e. let z : k + suc d ≡ k + 1 + d = omega arith in o (suc d) (omega arith) (ap (number_in f w h q) z ∙ e))
      ∙ at_other (number_in f w h q k) (prediction_of f m k) rs i (λ e. o 0 (omega arith) (ap (number_in f w h q) (add-zero k) ∙ e))

-- a macro block that is not moved, whose blocks are as they started
from_unmoved : (f : PixelFormat) (w h : ℕ) (q : Place) (n k : ℕ) (rs : List BlockRecord)
    → ((d : ℕ) → d < n → (get_or rs (number_in f w h q (k + d)) uncoded).coded ≡ true → (get_or rs (number_in f w h q (k + d)) uncoded).prediction ≡ unmoved)
    → predicted_from f w h q (One unmoved) n k rs ≡ rs
unfolding predicted_from prediction_of
from_unmoved f w h q zero k rs o = refl
from_unmoved f w h q (suc n) k rs o =
    let here = at_was (number_in f w h q k) unmoved rs (subst (λ (j : ℕ). (get_or rs (number_in f w h q j) uncoded).coded ≡ true → (get_or rs (number_in f w h q j) uncoded).prediction ≡ unmoved) (add-zero k) (o 0 (omega arith))) in
    ap (predicted_from f w h q (One unmoved) n (k + 1)) here
    ∙ from_unmoved f w h q n (k + 1) rs (λ d l. let z : k + suc d ≡ k + 1 + d = omega arith in subst (λ (j : ℕ). (get_or rs (number_in f w h q j) uncoded).coded ≡ true → (get_or rs (number_in f w h q j) uncoded).prediction ≡ unmoved) z (o (suc d) (omega arith)))

-- ---- each block belongs to one macro block
indexed : (b : Block) (l : List Block) → Memᴰ b l → (k : ℕ) × (k < length l) × (get_or l k (block 0 0 0) ≡ b)
indexed b [] d = absurd (Memᴰ.not-nil d)
indexed b (c ∷ l) d = ⊎_elim (λ e. (0, omega arith, sym e)) (λ t. let r = indexed b l t in (suc r.0, omega (arith, r.1), r.2)) (Memᴰ.cases_cons d)

macro_in_frame : (f : PixelFormat) (w h : ℕ) (b : Block) → InFrame f w h b → ((macro_of f b).x < w) × ((macro_of f b).y < h)
unfolding macro_of
macro_in_frame f w h b i = go f b.plane i.column i.row
  where
    go : (f : PixelFormat) (p : ℕ) → b.x < across f w p → b.y < up f h p → ((macro_in f p b.x b.y).x < w) × ((macro_in f p b.x b.y).y < h)
    go f zero hx hy = (omega arith, omega arith)
    go Chroma420 (suc p) hx hy = (hx, hy)
    go Chroma422 (suc p) hx hy = (hx, omega arith)
    go Chroma444 (suc p) hx hy = (omega arith, omega arith)

module _ (f : PixelFormat) (w h : ℕ) where
  abbrev macro : ℕ → Place
  macro j = get_or (coded_macros w h) j (at 0 0)

  abbrev no : ℕ → ℕ → ℕ
  no j k = number_in f w h (macro j) k

  abbrev its : ℕ → ℕ → Block
  its j k = get_or (blocks_of_macro f (macro j).x (macro j).y) k (block 0 0 0)

  apart : (i j a b : ℕ) → i < macro_blocks_of w h → j < macro_blocks_of w h → a < blocks_each f → b < blocks_each f → no i a ≡ no j b → i ≡ j
  unfolding number_in
  apart i j a b hi hj ha hb e =
      let o = macro_order w h in
      let ri = o.back i hi in
      let rj = o.back j hj in
      let ia = element_in_frame f w h (macro i).x (macro i).y a ri.0 ri.1 ha in
      let jb = element_in_frame f w h (macro j).x (macro j).y b rj.0 rj.1 hb in
      let same = sym (block_at_number f w h (its i a) ia) ∙ ap (block_no f w h) e ∙ block_at_number f w h (its j b) jb in
      o.once i j hi hj
      (sym (macro_of_element f w h (macro i).x (macro i).y a ri.0 ri.1 ha).1 ∙ ap (macro_of f) same ∙ (macro_of_element f w h (macro j).x (macro j).y b rj.0 rj.1 hb).1)

  covered : (i : ℕ) → i < blocks_of f w h → (j : ℕ) × (k : ℕ) × (j < macro_blocks_of w h) × (k < blocks_each f) × (no j k ≡ i)
  unfolding number_in
  covered i l =
      let b = block_no f w h i in
      let r = number_of_block f w h i l in
      let q = macro_of f b in
      let m = macro_in_frame f w h b r.0 in
      let t = (macro_order w h).there q.x q.y m.0 m.1 in
      let u = indexed b (blocks_of_macro f q.x q.y) (in_its_macro f b r.0.of_three) in (
        index_of 2 (rank_in macro_walk) w h q.x q.y,
        u.0,
        t.0,
        omega (arith, u.1, macro_length f q.x q.y),
        ap (λ (z : Place). raster_number f w h (get_or (blocks_of_macro f z.x z.y) u.0 (block 0 0 0))) t.1 ∙ ap (raster_number f w h) u.2 ∙ r.1,
      )

  -- ---- macro blocks of mode 0 are passed over
  module _ (m : ℕ) (l : m < macro_blocks_of w h) (rs : List BlockRecord) (z : Waiting f w h m rs) where
    pub waiting_later : Waiting f w h (m + 1) rs
    unfolding Waiting
    waiting_later j k a b c = z j k (omega arith) b c

    pub waiting_on : (v : Motion) → Waiting f w h (m + 1) (predicted_from f w h (macro m) v (blocks_each f) 0 rs)
    unfolding Waiting
    waiting_on v j k a b c =
        let e = from_other f w h (macro m) v (blocks_each f) 0 rs (no j k) (λ d g y. let x = apart m j (0 + d) k l b (omega arith) c y in omega (arith, a, x)) in
        subst (λ (r : BlockRecord). r.coded ≡ true → r.prediction ≡ unmoved) (sym e) (z j k (omega arith) b c)

    still_there : predicted_from f w h (macro m) (One unmoved) (blocks_each f) 0 rs ≡ rs
    unfolding Waiting
    still_there = from_unmoved f w h (macro m) (blocks_each f) 0 rs (λ d g. z m (0 + d) (omega arith) l (omega arith))

  pub passed_over : (code mode m : ℕ) (s : VectorState) (p : List ℕ) (i : ℕ) → mode ≡ 0 → m < macro_blocks_of w h → Waiting f w h m s.records → macro_block f w h code mode (macro m) s p i ≡ got s i
  passed_over code mode m s p i e l z =
      let no_move = still_nomv mode s.last s.last2 (λ y. omega (arith, e, y)) (λ y. omega (arith, e, y)) (λ y. omega (arith, e, y)) (λ y. omega (arith, e, y)) in
      let got-it = motion_still code mode (coded_in f w h (macro m) s.records 0) (coded_in f w h (macro m) s.records 1) (coded_in f w h (macro m) s.records 2) (coded_in f w h (macro m) s.records 3) s.last s.last2 p i
      (λ y. omega (arith, e, y)) (λ y. omega (arith, e, y)) (λ y. omega (arith, e, y)) in
      macro_moved f w h code mode (macro m) s p i (got-it ∙ ap (λ (v : Moved). got v i) (sym no_move))
      ∙ (λ d. got (record { records = still_there m l s.records z d; last = s.last; last2 = s.last2 }) i)

  -- ---- what a prediction hides is hidden in the end
  less : (j m : ℕ) → j < m + 1 → (j ≡ m → ⊥) → j < m
  less j m l n = omega (arith, l, n)

  abbrev Settled : ℕ → List BlockRecord → List BlockRecord → Type 0
  Settled m rs ss = (j k : ℕ) → j < m → k < blocks_each f → get_or rs (no j k) uncoded ≡ get_or ss (no j k) uncoded

  settled_all : (rs ss : List BlockRecord) → length rs ≡ blocks_of f w h → Like rs ss → Settled (macro_blocks_of w h) rs ss → rs ≡ ss
  settled_all rs ss e s t =
      ext_get_or uncoded rs ss s.0
      (λ i l. let c = covered i (omega (arith, l, e)) in subst (λ (n : ℕ). get_or rs n uncoded ≡ get_or ss n uncoded) c.4 (t c.0 c.1 c.2 c.3))

  settled_on : (m : ℕ) (v : Motion) (rs ss : List BlockRecord) → Like rs ss → Settled m rs ss
      → Settled (m + 1) (predicted_from f w h (macro m) v (blocks_each f) 0 rs) (predicted_from f w h (macro m) v (blocks_each f) 0 ss)
  settled_on m v rs ss s t j k l c = go (eqb j m) refl
    where
      go : (b : Bool) → eqb j m ≡ b → get_or (predicted_from f w h (macro m) v (blocks_each f) 0 rs) (no j k) uncoded ≡ get_or (predicted_from f w h (macro m) v (blocks_each f) 0 ss) (no j k) uncoded
      go true e =
          let z : 0 + k ≡ k = omega arith in
          subst (λ (i : ℕ). get_or (predicted_from f w h (macro m) v (blocks_each f) 0 rs) (no i k) uncoded ≡ get_or (predicted_from f w h (macro m) v (blocks_each f) 0 ss) (no i k) uncoded) (sym (eqb-true j m e))
          (subst (λ (i : ℕ). get_or (predicted_from f w h (macro m) v (blocks_each f) 0 rs) (no m i) uncoded ≡ get_or (predicted_from f w h (macro m) v (blocks_each f) 0 ss) (no m i) uncoded) z
          (from_new f w h (macro m) v (blocks_each f) 0 k c rs ss s))
      go false e = from_same f w h (macro m) v (blocks_each f) 0 rs ss s (no j k) (t j k (less j m l (eqb-false j m e)) c)

  same_flag : (q : Place) (rs ss : List BlockRecord) → Like rs ss → (k : ℕ) → coded_in f w h q rs k ≡ coded_in f w h q ss k
  unfolding coded_in
  same_flag q rs ss s k =
      let n = number_in f w h q k in
      sym (as_coded None (get_or rs n uncoded)) ∙ ap (λ (r : BlockRecord). r.coded) (s.1 n None) ∙ as_coded None (get_or ss n uncoded)

  module _ (code : ℕ) (modes p : List ℕ) where
    record Pair (m : ℕ) (s t : VectorState) : Type 0 where
      all : length s.records ≡ blocks_of f w h
      like : Like s.records t.records
      settled : Settled m s.records t.records
      last : s.last ≡ t.last
      last2 : s.last2 ≡ t.last2

    same_moves : (mode : ℕ) (q : Place) (s t : VectorState) (m : ℕ) → Pair m s t → (i : ℕ) → moves f w h code mode q s p i ≡ moves f w h code mode q t p i
    same_moves mode q s t m a i =
        let e = same_flag q s.records t.records a.like in
        λ d. motion code mode (e 0 d) (e 1 d) (e 2 d) (e 3 d) (a.last d) (a.last2 d) p i

    same_blocks : (n m : ℕ) (s t : VectorState) → m + n ≡ macro_blocks_of w h → Pair m s t → (i : ℕ) → macro_blocks f w h code modes n m s p i ≡ macro_blocks f w h code modes n m t p i
    unfolding macro_blocks
    same_blocks zero m s t e a i =
        let z : m ≡ macro_blocks_of w h = omega arith in
        let r = settled_all s.records t.records a.all a.like (subst (λ (j : ℕ). Settled j s.records t.records) z a.settled) in
        λ d. got (record { records = r d; last = a.last d; last2 = a.last2 d }) i
    same_blocks (suc n) m s t e a i = go (moves f w h code (get_or modes m 0) (macro m) s p i) refl (same_blocks n)
      where
        go : (o : Outcome Moved) → moves f w h code (get_or modes m 0) (macro m) s p i ≡ o
            → ((m : ℕ) (s t : VectorState) → m + n ≡ macro_blocks_of w h → Pair m s t → (i : ℕ) → macro_blocks f w h code modes n m s p i ≡ macro_blocks f w h code modes n m t p i)
            → macro_blocks f w h code modes (suc n) m s p i ≡ macro_blocks f w h code modes (suc n) m t p i
        go (refused k d) g again =
            let g2 = sym (same_moves (get_or modes m 0) (macro m) s t m a i) ∙ g in
            rw (macro_end f w h code (get_or modes m 0) (macro m) s p i g, macro_end f w h code (get_or modes m 0) (macro m) t p i g2)
        go (got v d) g again =
            let g2 = sym (same_moves (get_or modes m 0) (macro m) s t m a i) ∙ g in
            let b : Pair (m + 1) (moved_to f w h code (get_or modes m 0) (macro m) s p i v) (moved_to f w h code (get_or modes m 0) (macro m) t p i v) = record {
              all = from_length f w h (macro m) v.motion (blocks_each f) 0 s.records ∙ a.all;
              like = from_like f w h (macro m) v.motion (blocks_each f) 0 s.records t.records a.like;
              settled = settled_on m v.motion s.records t.records a.like a.settled;
              last = refl;
              last2 = refl;
            } in
            rw (macro_moved f w h code (get_or modes m 0) (macro m) s p i g, macro_moved f w h code (get_or modes m 0) (macro m) t p i g2)
            (again (m + 1) (moved_to f w h code (get_or modes m 0) (macro m) s p i v) (moved_to f w h code (get_or modes m 0) (macro m) t p i v) (omega arith) b d)

    pub start_hidden : (rs : List BlockRecord) → length modes ≡ macro_blocks_of w h → length rs ≡ blocks_of f w h → (i : ℕ)
        → macro_blocks f w h code modes (length modes) 0 (record { records = rs; last = zero_vector; last2 = zero_vector }) p i
        ≡ macro_blocks f w h code modes (length modes) 0 (record { records = map (predicted_as unmoved) rs; last = zero_vector; last2 = zero_vector }) p i
    start_hidden rs e l i =
        same_blocks (length modes) 0 (record { records = rs; last = zero_vector; last2 = zero_vector }) (record { records = map (predicted_as unmoved) rs; last = zero_vector; last2 = zero_vector }) (omega arith)
        (record {
          all = l;
          like = (sym (length-map rs (predicted_as unmoved)), λ n q. sym (ap (predicted_as q) (get_or-map (predicted_as unmoved) rs n uncoded) ∙ as_again q (get_or rs n uncoded) unmoved));
          settled = λ j k a b. absurd (not-suc-le-zero a);
          last = refl;
          last2 = refl;
        })
        i

  pub waiting_first : (rs : List BlockRecord) → Waiting f w h 0 (map (predicted_as unmoved) rs)
  unfolding Waiting
  waiting_first rs j k a b c =
      subst (λ (r : BlockRecord). r.coded ≡ true → r.prediction ≡ unmoved) (sym (get_or-map (predicted_as unmoved) rs (no j k) uncoded)) (as_given unmoved (get_or rs (no j k) uncoded))

  -- ---- for the functions
  module _ (l ns : List ℕ) (a : AllPacked l) (e : ns ≡ map started l) where
    begun : records_of ns ≡ map (predicted_as unmoved) (records_of l)
    begun = ap records_of e ∙ (started_all l a).0

    pub begins : AllPacked ns × Waiting f w h 0 (records_of ns)
    begins = (subst AllPacked (sym e) (started_all l a).1, subst (Waiting f w h 0) (sym begun) (waiting_first (records_of l)))

    pub hidden : (code : ℕ) (modes p : List ℕ) → length modes ≡ macro_blocks_of w h → length l ≡ blocks_of f w h → (i : ℕ)
        → macro_blocks f w h code modes (length modes) 0 (state_of l zero_vector zero_vector) p i ≡ macro_blocks f w h code modes (length modes) 0 (state_of ns zero_vector zero_vector) p i
    hidden code modes p d g i =
        start_hidden code modes p (records_of l) d (length-map l unpacked ∙ g) i
        ∙ ap (λ (rs : List BlockRecord). macro_blocks f w h code modes (length modes) 0 (record { records = rs; last = zero_vector; last2 = zero_vector }) p i) (sym begun)
