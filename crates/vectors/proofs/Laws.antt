-- Vectors keep the reading algebra's laws, and records stay in their range. Assumes nothing.
use Prim.Native.Nat.{ℕ, zero, suc, ◌+◌, ◌*◌}
use native.Mathlib.Omega.{arith}
use native.Mathlib.Nat.{zero-mul, suc-mul}
use mathlib.Core.Path.{◌≡◌, refl, ap, ◌∙◌, subst}
use mathlib.Core.List.{List}
use mathlib.Core.Bool.{Bool, true, false}
use lib.Dec.{eqb, ltb}
use lib.ListN.{length, get_or, length-set}
use borrow.Author.Tests.{ltb-false}
use Rattle.bitstream.specs.Lists.{among}
use Rattle.bitstream.specs.Reading.{got, bind, pure, choose, field}
use Rattle.bitstream.proofs.Laws.{Lawful, pure_lawful, pick_lawful, bind_lawful, field_lawful, whole_lawful, bind_got}
use Rattle.bitstream.proofs.Inside.{Inside, pure_inside, pick_inside, bind_inside, field_inside, whole_inside, Refuses, pure_refuses, pick_refuses, bind_refuses, field_refuses, whole_refuses}
use Rattle.bitstream.proofs.Spends.{Spends, spends_more, pure_spends, field_spends, field_then, bind_spends, pick_spends, whole_spends}
use Rattle.bitstream.proofs.ListLaws.{set_cases}
use Rattle.geometry.specs.declared.PixelFormat.{PixelFormat}
use Rattle.geometry.specs.declared.Place.{Place}
use Rattle.geometry.specs.Sizes.{blocks_each}
use Rattle.geometry.specs.Order.{at, coded_macros}
use Rattle.block_record.specs.declared.Vector.{Vector}
use Rattle.block_record.specs.declared.Prediction.{Prediction}
use Rattle.block_record.specs.declared.Prediction.TheVariants.{None}
use Rattle.block_record.specs.declared.BlockRecord.{BlockRecord}
use Rattle.block_record.specs.Record.{VectorInRange, PredictionInRange, InRange, with_prediction, uncoded}
use Rattle.block_record.proofs.MemoryLaws.{AllInRange, in_range_at, in_range_set}
use Rattle.motion.specs.declared.Motion.{Motion}
use Rattle.motion_reader.specs.Component.{added, width, least, variable, by_code, component, vector}
use Rattle.motion_reader.specs.Motion.{motion, moving, moving_golden, if_coded, row, moving_four, prediction_of}
use Rattle.motion.specs.Kept.{MotionInRange, zero_vector, still}
use Rattle.vectors.specs.Vectors.{number_in, predicted_at, predicted_from, VectorState, macro_block, macro_blocks, vectors}
use Rattle.motion_reader.proofs.Components.{long_fits}
use Rattle.motion_reader.proofs.Motions.{prediction_small}
use Rattle.motion.proofs.Kept.{zero_small}
use Rattle.vectors.proofs.Records.{macro_through, first}

-- ---- Local and Firm
added_lawful : (n a : ℕ) → Lawful (added n a)
unfolding added
added_lawful n a = bind_lawful (field_lawful n) (λ v. bind_lawful (field_lawful 1) (λ s. pure_lawful _))

component_lawful : (code : ℕ) → Lawful (component code)
unfolding component by_code variable
component_lawful code =
    whole_lawful (pick_lawful (eqb code 0)
    (bind_lawful (field_lawful 3) (λ t. pick_lawful (ltb t 3) (pure_lawful _) (added_lawful (width t) (least t))))
    (added_lawful 5 0))

vector_lawful : (code : ℕ) → Lawful (vector code)
unfolding vector
vector_lawful code = bind_lawful (component_lawful code) (λ x. bind_lawful (component_lawful code) (λ y. pure_lawful _))

row_lawful : (code : ℕ) (left right : Bool) → Lawful (row code left right)
unfolding row if_coded
row_lawful code left right =
    bind_lawful (pick_lawful left (vector_lawful code) (pure_lawful zero_vector)) (λ v. bind_lawful (pick_lawful right (vector_lawful code) (pure_lawful zero_vector)) (λ u. pure_lawful _))

motion_lawful : (code mode : ℕ) (a b c d : Bool) (last last2 : Vector) → Lawful (motion code mode a b c d last last2)
unfolding motion moving moving_golden moving_four
motion_lawful code mode a b c d last last2 =
    pick_lawful (eqb mode 2) (bind_lawful (vector_lawful code) (λ v. pure_lawful _))
    (pick_lawful (eqb mode 6) (bind_lawful (vector_lawful code) (λ v. pure_lawful _))
    (pick_lawful (eqb mode 7) (bind_lawful (row_lawful code a b) (λ l. bind_lawful (row_lawful code c d) (λ u. pure_lawful _))) (pure_lawful (still mode last last2))))

module _ (f : PixelFormat) (w h code : ℕ) where
  macro_lawful : (mode : ℕ) (q : Place) (s : VectorState) → Lawful (macro_block f w h code mode q s)
  unfolding macro_block
  macro_lawful mode q s = bind_lawful (motion_lawful code mode _ _ _ _ s.last s.last2) (λ m. pure_lawful _)

  each_lawful : (modes : List ℕ) (n m : ℕ) (s : VectorState) → Lawful (macro_blocks f w h code modes n m s)
  unfolding macro_blocks
  each_lawful modes zero m s = pure_lawful s
  each_lawful modes (suc n) m s = bind_lawful (macro_lawful (get_or modes m 0) (get_or (coded_macros w h) m (at 0 0)) s) (λ t. each_lawful modes n (m + 1) t)

pub vectors_lawful : (f : PixelFormat) (w h : ℕ) (modes : List ℕ) (rs : List BlockRecord) → Lawful (vectors f w h modes rs)
unfolding vectors
vectors_lawful f w h modes rs = bind_lawful (field_lawful 1) (λ code. bind_lawful (each_lawful f w h code modes (length modes) 0 _) (λ s. pure_lawful _))

-- ---- what is refused lies in the packet
added_inside : {d : ℕ} (n a : ℕ) → Inside d (added n a)
unfolding added
added_inside n a = bind_inside (field_inside n) (λ v. bind_inside (field_inside 1) (λ s. pure_inside _))

component_inside : {d : ℕ} (code : ℕ) → Inside d (component code)
unfolding component by_code variable
component_inside code =
    whole_inside (pick_inside (eqb code 0)
    (bind_inside (field_inside 3) (λ t. pick_inside (ltb t 3) (pure_inside _) (added_inside (width t) (least t))))
    (added_inside 5 0))

vector_inside : {d : ℕ} (code : ℕ) → Inside d (vector code)
unfolding vector
vector_inside code = bind_inside (component_inside code) (λ x. bind_inside (component_inside code) (λ y. pure_inside _))

row_inside : {d : ℕ} (code : ℕ) (left right : Bool) → Inside d (row code left right)
unfolding row if_coded
row_inside code left right =
    bind_inside (pick_inside left (vector_inside code) (pure_inside zero_vector)) (λ v. bind_inside (pick_inside right (vector_inside code) (pure_inside zero_vector)) (λ u. pure_inside _))

motion_inside : {d' : ℕ} (code mode : ℕ) (a b c d : Bool) (last last2 : Vector) → Inside d' (motion code mode a b c d last last2)
unfolding motion moving moving_golden moving_four
motion_inside code mode a b c d last last2 =
    pick_inside (eqb mode 2) (bind_inside (vector_inside code) (λ v. pure_inside _))
    (pick_inside (eqb mode 6) (bind_inside (vector_inside code) (λ v. pure_inside _))
    (pick_inside (eqb mode 7) (bind_inside (row_inside code a b) (λ l. bind_inside (row_inside code c d) (λ u. pure_inside _))) (pure_inside (still mode last last2))))

module _ (f : PixelFormat) (w h code : ℕ) where
  macro_inside : {d : ℕ} (mode : ℕ) (q : Place) (s : VectorState) → Inside d (macro_block f w h code mode q s)
  unfolding macro_block
  macro_inside mode q s = bind_inside (motion_inside code mode _ _ _ _ s.last s.last2) (λ m. pure_inside _)

  each_inside : {d : ℕ} (modes : List ℕ) (n m : ℕ) (s : VectorState) → Inside d (macro_blocks f w h code modes n m s)
  unfolding macro_blocks
  each_inside modes zero m s = pure_inside s
  each_inside modes (suc n) m s = bind_inside (macro_inside (get_or modes m 0) (get_or (coded_macros w h) m (at 0 0)) s) (λ t. each_inside modes n (m + 1) t)

pub vectors_inside : {d : ℕ} (f : PixelFormat) (w h : ℕ) (modes : List ℕ) (rs : List BlockRecord) → Inside d (vectors f w h modes rs)
unfolding vectors
vectors_inside f w h modes rs = bind_inside (field_inside 1) (λ code. bind_inside (each_inside f w h code modes (length modes) 0 _) (λ s. pure_inside _))

-- ---- and is refused by 4
module _ {ks : List ℕ} (four : among ks 4 ≡ true) where
  added_refuses : (n a : ℕ) → Refuses ks (added n a)
  unfolding added
  added_refuses n a = bind_refuses (field_refuses n four) (λ v. bind_refuses (field_refuses 1 four) (λ s. pure_refuses _))

  component_refuses : (code : ℕ) → Refuses ks (component code)
  unfolding component by_code variable
  component_refuses code =
      whole_refuses (pick_refuses (eqb code 0)
      (bind_refuses (field_refuses 3 four) (λ t. pick_refuses (ltb t 3) (pure_refuses _) (added_refuses (width t) (least t))))
      (added_refuses 5 0))

  vector_refuses : (code : ℕ) → Refuses ks (vector code)
  unfolding vector
  vector_refuses code = bind_refuses (component_refuses code) (λ x. bind_refuses (component_refuses code) (λ y. pure_refuses _))

  row_refuses : (code : ℕ) (left right : Bool) → Refuses ks (row code left right)
  unfolding row if_coded
  row_refuses code left right =
      bind_refuses (pick_refuses left (vector_refuses code) (pure_refuses zero_vector)) (λ v. bind_refuses (pick_refuses right (vector_refuses code) (pure_refuses zero_vector)) (λ u. pure_refuses _))

  motion_refuses : (code mode : ℕ) (a b c d : Bool) (last last2 : Vector) → Refuses ks (motion code mode a b c d last last2)
  unfolding motion moving moving_golden moving_four
  motion_refuses code mode a b c d last last2 =
      pick_refuses (eqb mode 2) (bind_refuses (vector_refuses code) (λ v. pure_refuses _))
      (pick_refuses (eqb mode 6) (bind_refuses (vector_refuses code) (λ v. pure_refuses _))
      (pick_refuses (eqb mode 7) (bind_refuses (row_refuses code a b) (λ l. bind_refuses (row_refuses code c d) (λ u. pure_refuses _))) (pure_refuses (still mode last last2))))

  macro_refuses : (f : PixelFormat) (w h code mode : ℕ) (q : Place) (s : VectorState) → Refuses ks (macro_block f w h code mode q s)
  unfolding macro_block
  macro_refuses f w h code mode q s = bind_refuses (motion_refuses code mode _ _ _ _ s.last s.last2) (λ m. pure_refuses _)

  each_refuses : (f : PixelFormat) (w h code : ℕ) (modes : List ℕ) (n m : ℕ) (s : VectorState) → Refuses ks (macro_blocks f w h code modes n m s)
  unfolding macro_blocks
  each_refuses f w h code modes zero m s = pure_refuses s
  each_refuses f w h code modes (suc n) m s =
      bind_refuses (macro_refuses f w h code (get_or modes m 0) (get_or (coded_macros w h) m (at 0 0)) s) (λ t. each_refuses f w h code modes n (m + 1) t)

  pub vectors_refuses : (f : PixelFormat) (w h : ℕ) (modes : List ℕ) (rs : List BlockRecord) → Refuses ks (vectors f w h modes rs)
  unfolding vectors
  vectors_refuses f w h modes rs = bind_refuses (field_refuses 1 four) (λ code. bind_refuses (each_refuses f w h code modes (length modes) 0 _) (λ s. pure_refuses _))

-- ---- bits that are spent: 8 for a component, 16 for a vector, 64 for a macro block
added_spends : (n a : ℕ) → Spends (n + 1) (added n a)
unfolding added
added_spends n a = spends_more (omega arith) (bind_spends (field_spends n) (λ v. bind_spends {b = 0} (field_spends 1) (λ s. pure_spends _)))

component_spends : (code : ℕ) → Spends 8 (component code)
unfolding component by_code variable
component_spends code =
    whole_spends (pick_spends (eqb code 0)
    (λ _. field_then 3 {b = 5} (λ t l. pick_spends (ltb t 3) (λ _. spends_more (omega arith) (pure_spends _))
    (λ e. spends_more (omega (arith, (long_fits t (ltb-false t 3 e) l).0)) (added_spends (width t) (least t)))))
    (λ _. spends_more (omega arith) (added_spends 5 0)))

vector_spends : (code : ℕ) → Spends 16 (vector code)
unfolding vector
vector_spends code = bind_spends {b = 8} (component_spends code) (λ x. bind_spends {b = 0} (component_spends code) (λ y. pure_spends _))

coded_spends : (code : ℕ) (t : Bool) → Spends 16 (if_coded code t)
unfolding if_coded
coded_spends code t = pick_spends t (λ _. vector_spends code) (λ _. spends_more (omega arith) (pure_spends zero_vector))

row_spends : (code : ℕ) (left right : Bool) → Spends 32 (row code left right)
unfolding row
row_spends code left right = bind_spends {b = 16} (coded_spends code left) (λ v. bind_spends {b = 0} (coded_spends code right) (λ u. pure_spends _))

motion_spends : (code mode : ℕ) (a b c d : Bool) (last last2 : Vector) → Spends 64 (motion code mode a b c d last last2)
unfolding motion moving moving_golden moving_four
motion_spends code mode a b c d last last2 =
    pick_spends (eqb mode 2) (λ _. spends_more (omega arith) (bind_spends {b = 0} (vector_spends code) (λ v. pure_spends _)))
    (λ _. pick_spends (eqb mode 6) (λ _. spends_more (omega arith) (bind_spends {b = 0} (vector_spends code) (λ v. pure_spends _)))
    (λ _. pick_spends (eqb mode 7) (λ _. bind_spends {b = 32} (row_spends code a b) (λ l. bind_spends {b = 0} (row_spends code c d) (λ u. pure_spends _)))
    (λ _. spends_more (omega arith) (pure_spends (still mode last last2)))))

module _ (f : PixelFormat) (w h code : ℕ) where
  macro_spends : (mode : ℕ) (q : Place) (s : VectorState) → Spends 64 (macro_block f w h code mode q s)
  unfolding macro_block
  macro_spends mode q s = bind_spends {b = 0} (motion_spends code mode _ _ _ _ s.last s.last2) (λ m. pure_spends _)

  each_spends : (modes : List ℕ) (n m : ℕ) (s : VectorState) → Spends (n * 64) (macro_blocks f w h code modes n m s)
  unfolding macro_blocks
  each_spends modes zero m s = rw zero-mul (pure_spends s)
  each_spends modes (suc n) m s =
      spends_more (rw suc-mul (omega arith)) (bind_spends (macro_spends (get_or modes m 0) (get_or (coded_macros w h) m (at 0 0)) s) (λ t. each_spends modes n (m + 1) t))

pub vectors_spends : (f : PixelFormat) (w h : ℕ) (modes : List ℕ) (rs : List BlockRecord) → Spends (1 + length modes * 64) (vectors f w h modes rs)
unfolding vectors
vectors_spends f w h modes rs =
    spends_more (omega arith) (bind_spends (field_spends 1) (λ code. bind_spends {b = 0} (each_spends f w h code modes (length modes) 0 _) (λ s. pure_spends _)))

-- ---- records stay as many, and in their range; nothing but the prediction changes
-- what the records keep of those that they were at first
pub record Keeps (rs₀ rs : List BlockRecord) : Type 0 where
  pub long : length rs ≡ length rs₀
  pub in_range : AllInRange rs
  pub but : (m : ℕ) → with_prediction None (get_or rs m uncoded) ≡ with_prediction None (get_or rs₀ m uncoded)

predicted_keeps : (l : List BlockRecord) (i : ℕ) (p : Prediction) (rs : List BlockRecord) → PredictionInRange p → Keeps l rs → Keeps l (predicted_at i p rs)
unfolding predicted_at
predicted_keeps l i p rs h k = record {
  long = length-set rs i _ ∙ k.long;
  in_range = in_range_set rs i _ k.in_range (go (get_or rs i uncoded).coded);
  but = λ m. set_cases (λ r. with_prediction None r ≡ with_prediction None (get_or l m uncoded)) rs i m _ uncoded
      (λ z. same (get_or rs i uncoded).coded (get_or rs i uncoded) ∙ ap (λ (j : ℕ). with_prediction None (get_or rs j uncoded)) z ∙ k.but m) (k.but m);
}
  where
    there : InRange (get_or rs i uncoded)
    there = in_range_at rs i k.in_range

    go : (t : Bool) → InRange (choose t (with_prediction p (get_or rs i uncoded)) (get_or rs i uncoded))
    go true = record { qi_index = there.qi_index; prediction = h }
    go false = there

    same : (t : Bool) (r : BlockRecord) → with_prediction None (choose t (with_prediction p r) r) ≡ with_prediction None r
    same true r = refl
    same false r = refl

module _ (f : PixelFormat) (w h : ℕ) where
  blocks_keep : (q : Place) (m : Motion) → MotionInRange m → (l : List BlockRecord) (n k : ℕ) (rs : List BlockRecord) → Keeps l rs → Keeps l (predicted_from f w h q m n k rs)
  unfolding predicted_from
  blocks_keep q m g l zero k rs a = a
  blocks_keep q m g l (suc n) k rs a = blocks_keep q m g l n (k + 1) _ (predicted_keeps l (number_in f w h q k) (prediction_of f m k) rs (prediction_small f m k g) a)

  -- what a state keeps
  pub record StateKeeps (l : List BlockRecord) (s : VectorState) : Type 0 where
    pub records : Keeps l s.records
    pub last : VectorInRange s.last
    pub last2 : VectorInRange s.last2

  macro_keeps : (code mode : ℕ) (q : Place) (s : VectorState) (l : List BlockRecord) (p : List ℕ) (i : ℕ) {t : VectorState} {e : ℕ} → StateKeeps l s → macro_block f w h code mode q s p i ≡ got t e → StateKeeps l t
  macro_keeps code mode q s l p i a r =
      let u = macro_through f w h code mode q s p i a.last a.last2 r in
      subst (StateKeeps l) u.2
      (record { records = blocks_keep q u.0.motion u.1.motion l (blocks_each f) 0 s.records a.records; last = u.1.last; last2 = u.1.last2 })

  each_keep : (code : ℕ) (modes : List ℕ) (n m : ℕ) (s : VectorState) (l : List BlockRecord) (p : List ℕ) (i : ℕ) {t : VectorState} {e : ℕ} → StateKeeps l s → macro_blocks f w h code modes n m s p i ≡ got t e → StateKeeps l t
  unfolding macro_blocks
  each_keep code modes zero m s l p i {t} {e} a r = let z : s ≡ t = cc in subst (StateKeeps l) z a
  each_keep code modes (suc n) m s l p i {t} {e} a r =
      let u = bind_got (macro_block f w h code (get_or modes m 0) (get_or (coded_macros w h) m (at 0 0)) s) (macro_blocks f w h code modes n (m + 1)) p i r in
      each_keep code modes n (m + 1) u.0 l p u.1 (macro_keeps code (get_or modes m 0) (get_or (coded_macros w h) m (at 0 0)) s l p i a u.2) u.3

  -- records in their range stay so, and as many: every vector of the result is within ±31; nothing but the prediction changes
  pub vectors_keep : (modes : List ℕ) (rs : List BlockRecord) (p : List ℕ) (i : ℕ) {ss : List BlockRecord} {e : ℕ} → AllInRange rs → vectors f w h modes rs p i ≡ got ss e → Keeps rs ss
  unfolding vectors
  vectors_keep modes rs p i {ss} {e} a r =
      let u = bind_got (field 1) (λ code. bind (macro_blocks f w h code modes (length modes) 0 (first f w h modes rs p i)) (λ s. pure s.records)) p i r in
      let v = bind_got (macro_blocks f w h u.0 modes (length modes) 0 (first f w h modes rs p i)) (λ s. pure s.records) p u.1 u.3 in
      let k = each_keep u.0 modes (length modes) 0 (first f w h modes rs p i) rs p u.1 (record { records = record { long = refl; in_range = a; but = λ m. refl }; last = zero_small; last2 = zero_small }) v.2 in
      let z : v.0.records ≡ ss = cc in
      subst (Keeps rs) z k.records
