-- Records in work memory, and the macro blocks one after the other. Assumes nothing.
use Prim.Native.Nat.{ℕ, suc, ◌+◌, ◌-◌, ◌≤◌, ◌<◌}
use native.Mathlib.Omega.{arith}
use mathlib.Core.Path.{◌≡◌, refl, sym, ap, ◌∙◌}
use mathlib.Core.List.{List, map}
use mathlib.Core.Bool.{true, false}
use lib.ListN.{length, get_or, set}
use lib.Seq.{set-get_or}
use Rattle.bitstream.specs.Reading.{Outcome, got, refused, pure, field}
use Rattle.bitstream.proofs.Laws.{bind_got}
use Rattle.geometry.specs.declared.PixelFormat.{PixelFormat}
use Rattle.geometry.specs.declared.PixelFormat.TheVariants.{Chroma420, Chroma422, Chroma444}
use Rattle.geometry.specs.declared.Place.{Place}
use Rattle.geometry.specs.Sizes.{blocks_each}
use Rattle.geometry.specs.Order.{at, coded_macros}
use Rattle.block_record.specs.declared.Vector.{Vector}
use Rattle.block_record.specs.declared.Prediction.{Prediction}
use Rattle.block_record.specs.declared.BlockRecord.{BlockRecord}
use Rattle.block_record.specs.Record.{VectorInRange, PredictionInRange, InRange, with_prediction, uncoded}
use Rattle.block_record.specs.Packed.{packed, unpacked}
use Rattle.block_record.specs.Memory.{AllPacked, records_of}
use Rattle.block_record.proofs.Laws.{unpacked_packed}
use Rattle.block_record.proofs.MemoryLaws.{is_packed, packed_at, packed_set, packed_records, record_at, records_set}
use Rattle.bitstream.specs.Answer.{StoredAs, as_end}
use Rattle.bitstream.specs.declared.End.{End}
use Rattle.bitstream.specs.declared.End.TheVariants as end
use Rattle.motion.specs.declared.Motion.{Motion}
use Rattle.motion.specs.declared.Moved.{Moved}
use Rattle.vectors.specs.declared.Step.{Step}
use Rattle.vectors.specs.declared.Step.TheVariants.{Next, Refused}
use Rattle.motion_reader.specs.Motion.{motion, prediction_of}
use Rattle.motion.specs.Kept.{MovedInRange, zero_vector}
use Rattle.vectors.specs.Vectors.{number_in, coded_in, predicted_at, predicted_from, VectorState, macro_block, macro_blocks, vectors}
use Rattle.vectors.specs.Memory.{state_of, StoredState, as_step}
use Rattle.motion_reader.proofs.Motions.{motion_small}

-- ---- the record of a block
pub coded_at : (f : PixelFormat) (w h : ℕ) (q : Place) (l : List ℕ) (k i : ℕ) → i ≡ number_in f w h q k → (unpacked (get_or l i 0)).coded ≡ coded_in f w h q (records_of l) k
unfolding coded_in
coded_at f w h q l k i e = ap (λ (j : ℕ). (unpacked (get_or l j 0)).coded) e ∙ sym (ap (λ (r : BlockRecord). r.coded) (record_at l (number_in f w h q k)))

-- a coded block gets its prediction, and one that is not coded stays
module _ (l : List ℕ) (i : ℕ) (p : Prediction) (a : AllPacked l) where
  pub predicted_not : (unpacked (get_or l i 0)).coded ≡ false → records_of l ≡ predicted_at i p (records_of l)
  unfolding predicted_at
  predicted_not h = sym (rw (ap (λ (r : BlockRecord). r.coded) (record_at l i) ∙ h) (set-get_or (records_of l) i uncoded))

  module _ (k : PredictionInRange p) where
    abbrev new : BlockRecord
    new = with_prediction p (unpacked (get_or l i 0))

    new_in_range : InRange new
    new_in_range = record { qi_index = (packed_at l i a).in_range.qi_index; prediction = k }

    pub predicted_is : (unpacked (get_or l i 0)).coded ≡ true → records_of (set l i (packed new)) ≡ predicted_at i p (records_of l)
    unfolding predicted_at
    predicted_is h =
        let e = record_at l i in
        records_set l i (packed new)
        ∙ ap (set (records_of l) i) (unpacked_packed new new_in_range ∙ sym (rw (e, h)))

    pub predicted_all : AllPacked (set l i (packed new))
    predicted_all = packed_set l i (packed new) a (is_packed new new_in_range)

-- ---- the blocks of a macro block, one after the other
pub each_four : (f : PixelFormat) → 4 ≤ blocks_each f
each_four Chroma420 = omega arith
each_four Chroma422 = omega arith
each_four Chroma444 = omega arith

module _ (f : PixelFormat) (w h : ℕ) (q : Place) (m : Motion) (n k : ℕ) (rs : List BlockRecord) where
  pub blocks_done : n ≤ k → predicted_from f w h q m (n - k) k rs ≡ rs
  unfolding predicted_from
  blocks_done l = let z : n - k ≡ 0 = omega arith in rw z

  blocks_suc : (j : ℕ) → predicted_from f w h q m (suc j) k rs ≡ predicted_from f w h q m j (k + 1) (predicted_at (number_in f w h q k) (prediction_of f m k) rs)
  unfolding predicted_from
  blocks_suc j = refl

  pub blocks_on : k < n → predicted_from f w h q m (n - k) k rs ≡ predicted_from f w h q m (n - (k + 1)) (k + 1) (predicted_at (number_in f w h q k) (prediction_of f m k) rs)
  blocks_on l = let z : n - k ≡ suc (n - (k + 1)) = omega arith in ap (λ (j : ℕ). predicted_from f w h q m j k rs) z ∙ blocks_suc (n - (k + 1))

-- ---- one macro block
module _ (f : PixelFormat) (w h code mode : ℕ) (q : Place) (s : VectorState) (p : List ℕ) (i : ℕ) where
  abbrev pub moves : Outcome Moved
  moves =
      motion code mode (coded_in f w h q s.records 0) (coded_in f w h q s.records 1) (coded_in f w h q s.records 2) (coded_in f w h q s.records 3)
      s.last s.last2 p i

  abbrev pub moved_to : Moved → VectorState
  moved_to m = record { records = predicted_from f w h q m.motion (blocks_each f) 0 s.records; last = m.last; last2 = m.last2 }

  pub macro_end : {k e : ℕ} → moves ≡ refused k e → macro_block f w h code mode q s p i ≡ refused k e
  unfolding macro_block
  macro_end g = rw g

  pub macro_moved : {m : Moved} {e : ℕ} → moves ≡ got m e → macro_block f w h code mode q s p i ≡ got (moved_to m) e
  unfolding macro_block
  macro_moved g = rw g

  -- what a macro block that was got went through
  pub macro_through : VectorInRange s.last → VectorInRange s.last2 → {t : VectorState} {e : ℕ} → macro_block f w h code mode q s p i ≡ got t e → (m : Moved) × MovedInRange m × (moved_to m ≡ t)
  unfolding macro_block
  macro_through k k2 r =
      let u = bind_got
      (motion code mode (coded_in f w h q s.records 0) (coded_in f w h q s.records 1) (coded_in f w h q s.records 2) (coded_in f w h q s.records 3) s.last s.last2)
      (λ m. pure (moved_to m)) p i r in
      (u.0, motion_small code mode _ _ _ _ s.last s.last2 p i k k2 u.0 u.1 u.2, same u.0 u.3)
    where
      same : (m : Moved) {d : ℕ} {t : VectorState} {e : ℕ} → ◌≡◌ {A = Outcome VectorState} (got (moved_to m) d) (got t e) → moved_to m ≡ t
      same m z = cc

-- ---- macro blocks, one after the other
module _ (f : PixelFormat) (w h code : ℕ) (modes p : List ℕ) (n m i : ℕ) (s : VectorState) where
  abbrev pub this : Outcome VectorState
  this = macro_block f w h code (get_or modes m 0) (get_or (coded_macros w h) m (at 0 0)) s p i

  pub each_done : n ≤ m → macro_blocks f w h code modes (n - m) m s p i ≡ got s i
  unfolding macro_blocks
  each_done l = let z : n - m ≡ 0 = omega arith in rw z

  pub each_end : m < n → {k e : ℕ} → this ≡ refused k e → macro_blocks f w h code modes (n - m) m s p i ≡ refused k e
  unfolding macro_blocks
  each_end l g = let z : n - m ≡ suc (n - (m + 1)) = omega arith in rw (z, g)

  each_suc : (j : ℕ) {t : VectorState} {e : ℕ} → this ≡ got t e → macro_blocks f w h code modes (suc j) m s p i ≡ macro_blocks f w h code modes j (m + 1) t p e
  unfolding macro_blocks
  each_suc j g = rw g

  pub each_on : m < n → {t : VectorState} {e : ℕ} → this ≡ got t e → macro_blocks f w h code modes (n - m) m s p i ≡ macro_blocks f w h code modes (n - (m + 1)) (m + 1) t p e
  each_on l g = let z : n - m ≡ suc (n - (m + 1)) = omega arith in ap (λ (j : ℕ). macro_blocks f w h code modes j m s p i) z ∙ each_suc (n - (m + 1)) g

-- ---- the whole
module _ (f : PixelFormat) (w h : ℕ) (modes : List ℕ) (rs : List BlockRecord) (p : List ℕ) (i : ℕ) where
  abbrev pub first : VectorState
  first = record { records = rs; last = zero_vector; last2 = zero_vector }

  pub all_end : {k e : ℕ} → field 1 p i ≡ refused k e → vectors f w h modes rs p i ≡ refused k e
  unfolding vectors
  all_end g = rw g

  pub all_refused : {c e k d : ℕ} → field 1 p i ≡ got c e → macro_blocks f w h c modes (length modes) 0 first p e ≡ refused k d → vectors f w h modes rs p i ≡ refused k d
  unfolding vectors
  all_refused g r = rw (g, r)

  pub all_got : {c e d : ℕ} {s : VectorState} → field 1 p i ≡ got c e → macro_blocks f w h c modes (length modes) 0 first p e ≡ got s d → vectors f w h modes rs p i ≡ got s.records d
  unfolding vectors
  all_got g r = rw (g, r)

-- ---- what an answer says of the outcome, by its arm, where the slice holds `out`
module _ (out : List ℕ) where
  pub step_next : (o : Outcome VectorState) {r : Step} {v v2 : Vector} {e : ℕ} → r ≡ as_step o → StoredState out o → r ≡ Next v v2 e → (o ≡ got (state_of out v v2) e) × AllPacked out
  step_next (got s d) a k g =
      let z = sym a ∙ g in
      ((λ i. got (record { records = sym k.0 i; last = next_last z i; last2 = next_last2 z i }) (next_place z i)), k.1)
    where
      next_last : {v v2 u u2 : Vector} {d e : ℕ} → Next v v2 d ≡ Next u u2 e → v ≡ u
      next_last z = cc

      next_last2 : {v v2 u u2 : Vector} {d e : ℕ} → Next v v2 d ≡ Next u u2 e → v2 ≡ u2
      next_last2 z = cc

      next_place : {v v2 u u2 : Vector} {d e : ℕ} → Next v v2 d ≡ Next u u2 e → d ≡ e
      next_place z = cc
  step_next (refused j d) a k g = let z : ◌≡◌ {A = ℕ} 0 1 = cc in absurd (omega arith)

pub step_refused : (o : Outcome VectorState) {r : Step} {k e : ℕ} → r ≡ as_step o → r ≡ Refused k e → o ≡ refused k e
step_refused (got s d) a g = let z : ◌≡◌ {A = ℕ} 0 1 = cc in absurd (omega arith)
step_refused (refused j d) a g = cc

-- ---- what a return has to show
module _ (out : List ℕ) (o : Outcome VectorState) where
  pub on_step_refused : {k e : ℕ} → o ≡ refused k e → (Refused k e ≡ as_step o) × StoredState out o
  on_step_refused h = rw h (refl, tt)

  pub on_step : {s : VectorState} {e : ℕ} → o ≡ got s e → records_of out ≡ s.records → AllPacked out → (Next s.last s.last2 e ≡ as_step o) × StoredState out o
  on_step h k a = rw h (refl, (k, a))

  pub on_each_refused : {k e : ℕ} → o ≡ refused k e → (end.Refused k e ≡ as_end o) × StoredState out o
  on_each_refused h = rw h (refl, tt)

  pub on_each : {v v2 : Vector} {e : ℕ} → o ≡ got (state_of out v v2) e → AllPacked out → (end.At e ≡ as_end o) × StoredState out o
  on_each h a = rw h (refl, (refl, a))

-- the records of the last state are what is stored
pub on_vectors : (out : List ℕ) (o : Outcome VectorState) (v : Outcome (List BlockRecord)) {r : End}
    → ((k e : ℕ) → o ≡ refused k e → v ≡ refused k e) → ((s : VectorState) (e : ℕ) → o ≡ got s e → v ≡ got s.records e)
    → r ≡ as_end o → StoredState out o → (r ≡ as_end v) × StoredAs (map packed) out v
on_vectors out (got s e) v f g a k = rw (g s e refl) (a, packed_records out k.1 ∙ ap (map packed) k.0)
on_vectors out (refused j e) v f g a k = rw (f j e refl) (a, tt)
