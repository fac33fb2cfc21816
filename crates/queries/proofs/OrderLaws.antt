-- The calls on a session's frames, one law for each way that they go. Assumes nothing.
use Prim.Native.Nat.{ℕ, ◌≤◌, ◌<◌}
use native.Mathlib.Omega.{arith}
use mathlib.Core.Path.{◌≡◌, refl, sym, ap, ◌∙◌}
use mathlib.Core.Bool.{Bool, true, false, ◌&&◌, false≢true}
use lib.Dec.{ltb, eqb}
use lib.ListN.{get_or}
use borrow.Author.Tests.{ltb-true, lt-ltb, eqb-true, eq-eqb}
use Rattle.geometry.specs.declared.PixelFormat.{PixelFormat}
use Rattle.geometry.specs.declared.Block.{Block}
use Rattle.geometry.specs.declared.Place.{Place}
use Rattle.geometry.specs.Sizes.{across, up, blocks_of, macro_blocks_of}
use Rattle.geometry.specs.Order.{at, coded_macros}
use Rattle.geometry.specs.Frame.{block, InFrame, frame_order}
use Rattle.geometry.specs.Macro.{macro_of}
use Rattle.geometry.specs.Sample.{sample_at}
use Rattle.geometry.proofs.FrameLaws.{frame_length, frame_back, frame_once}
use Rattle.geometry.proofs.PlaneOrders.{macro_order}
use Rattle.bitstream.proofs.ListLaws.{and_both}
use Rattle.headers.specs.declared.Session.{Session}
use Rattle.headers.specs.Fits.{session_fits}
use Rattle.headers.specs.Sizes.{format_of}
use Rattle.queries.specs.Found.{is, absent, refused, on_session, element, position}
use Rattle.queries.specs.Orders.{is_block, is_place, has_block, block_at, block_number, macro_block_at, macro_block_number, macro_block_of, sample_offset}
use Rattle.queries.proofs.FoundLaws.{fits_on, unfit_on, element_is, element_absent, position_is, position_absent}

-- ---- tests
not_true : (b : Bool) → (b ≡ true → ⊥) → b ≡ false
not_true true h = absurd (h refl)
not_true false h = refl

pub is_block_law : (b q : Block) → is_block b q ≡ true → q ≡ b
is_block_law b q h =
    let k = and_both (eqb q.plane b.plane && eqb q.x b.x) (eqb q.y b.y) h in
    let j = and_both (eqb q.plane b.plane) (eqb q.x b.x) k.0 in
    let p = eqb-true _ _ j.0 in
    let x = eqb-true _ _ j.1 in
    let y = eqb-true _ _ k.1 in
    λ i. record { plane = p i; x = x i; y = y i }

same_block : (b q : Block) → q ≡ b → is_block b q ≡ true
same_block b q e = rw (eq-eqb _ _ (ap (λ (c : Block). c.plane) e), eq-eqb _ _ (ap (λ (c : Block). c.x) e), eq-eqb _ _ (ap (λ (c : Block). c.y) e))

pub is_place_law : (x y : ℕ) (q : Place) → is_place x y q ≡ true → q ≡ at x y
is_place_law x y q h =
    let k = and_both (eqb q.x x) (eqb q.y y) h in
    let a = eqb-true _ _ k.0 in
    let b = eqb-true _ _ k.1 in
    λ i. record { x = a i; y = b i }

same_place : (x y : ℕ) (q : Place) → q ≡ at x y → is_place x y q ≡ true
same_place x y q e = rw (eq-eqb _ _ (ap (λ (c : Place). c.x) e), eq-eqb _ _ (ap (λ (c : Place). c.y) e))

module _ (f : PixelFormat) (w h : ℕ) (b : Block) where
  pub has_in_frame : has_block f w h b ≡ true → InFrame f w h b
  unfolding has_block
  has_in_frame t =
      let k = and_both (ltb b.plane 3 && ltb b.x (across f w b.plane)) (ltb b.y (up f h b.plane)) t in
      let j = and_both (ltb b.plane 3) (ltb b.x (across f w b.plane)) k.0 in
      record { of_three = ltb-true _ _ j.0; column = ltb-true _ _ j.1; row = ltb-true _ _ k.1 }

  -- the test of `sample_offset`
  pub sample_inside : (c r : ℕ) → (has_block f w h b && ltb c 8 && ltb r 8) ≡ true → InFrame f w h b × (c < 8) × (r < 8)
  sample_inside c r t =
      let k = and_both (has_block f w h b && ltb c 8) (ltb r 8) t in
      let j = and_both (has_block f w h b) (ltb c 8) k.0 in
      (has_in_frame j.0, ltb-true _ _ j.1, ltb-true _ _ k.1)

  in_frame_has : InFrame f w h b → has_block f w h b ≡ true
  unfolding has_block
  in_frame_has k = rw (lt-ltb _ _ k.of_three, lt-ltb _ _ k.column, lt-ltb _ _ k.row)

  -- where a block stands in the frame's order
  block_there : (r : ℕ) → r < blocks_of f w h → get_or (frame_order f w h) r (block 0 0 0) ≡ b → position (is_block b) (frame_order f w h) ≡ is r
  block_there r hr e =
      let l = frame_length f w h in
      position_is (is_block b) (frame_order f w h) r (block 0 0 0) (omega arith) (same_block b (get_or (frame_order f w h) r (block 0 0 0)) e)
      (λ j k. not_true (is_block b (get_or (frame_order f w h) j (block 0 0 0)))
      (λ t. let z : j ≡ r = frame_once f w h j r (omega arith) hr (is_block_law b (get_or (frame_order f w h) j (block 0 0 0)) t ∙ sym e) in omega arith))

  block_nowhere : has_block f w h b ≡ false → position (is_block b) (frame_order f w h) ≡ absent
  block_nowhere n =
      position_absent (is_block b) (frame_order f w h) (block 0 0 0)
      (λ j k. not_true (is_block b (get_or (frame_order f w h) j (block 0 0 0)))
      (λ t. let e = is_block_law b (get_or (frame_order f w h) j (block 0 0 0)) t in
      let i = (frame_back f w h j (omega (arith, frame_length f w h))).0 in
      false≢true (sym n ∙ in_frame_has (rw e at i))))

module _ (w h x y : ℕ) where
  macro_there : (r : ℕ) → r < macro_blocks_of w h → get_or (coded_macros w h) r (at 0 0) ≡ at x y → position (is_place x y) (coded_macros w h) ≡ is r
  macro_there r hr e =
      let l = (macro_order w h).all in
      position_is (is_place x y) (coded_macros w h) r (at 0 0) (omega arith) (same_place x y (get_or (coded_macros w h) r (at 0 0)) e)
      (λ j k. not_true (is_place x y (get_or (coded_macros w h) j (at 0 0)))
      (λ t. let z : j ≡ r = (macro_order w h).once j r (omega arith) hr (is_place_law x y (get_or (coded_macros w h) j (at 0 0)) t ∙ sym e) in omega arith))

  macro_nowhere : (x < w → y < h → ⊥) → position (is_place x y) (coded_macros w h) ≡ absent
  macro_nowhere n =
      position_absent (is_place x y) (coded_macros w h) (at 0 0)
      (λ j k. not_true (is_place x y (get_or (coded_macros w h) j (at 0 0)))
      (λ t. let e = is_place_law x y (get_or (coded_macros w h) j (at 0 0)) t in
      let i = (macro_order w h).back j (omega (arith, (macro_order w h).all)) in
      let ex : (get_or (coded_macros w h) j (at 0 0)).x ≡ x = ap (λ (q : Place). q.x) e in
      let ey : (get_or (coded_macros w h) j (at 0 0)).y ≡ y = ap (λ (q : Place). q.y) e in
      n (omega arith) (omega arith)))

-- ---- the calls of a session that fits: g is its pixel format
module _ (s : Session) (fit : session_fits s ≡ true) (g : PixelFormat) (eg : g ≡ format_of s.fields.pf) where
  pub block_at_is : (i : ℕ) (b : Block) → i < blocks_of g s.fields.fmbw s.fields.fmbh → b ≡ get_or (frame_order g s.fields.fmbw s.fields.fmbh) i (block 0 0 0) → block_at s i ≡ is b
  unfolding block_at
  block_at_is i b hi e =
      rw (← eg, e) (fits_on s (element i (frame_order g s.fields.fmbw s.fields.fmbh)) fit
      ∙ element_is (frame_order g s.fields.fmbw s.fields.fmbh) i (block 0 0 0) (omega (arith, frame_length g s.fields.fmbw s.fields.fmbh)))

  pub block_at_absent : (i : ℕ) → blocks_of g s.fields.fmbw s.fields.fmbh ≤ i → block_at s i ≡ absent
  unfolding block_at
  block_at_absent i hi =
      rw (← eg) (fits_on s (element i (frame_order g s.fields.fmbw s.fields.fmbh)) fit
      ∙ element_absent (frame_order g s.fields.fmbw s.fields.fmbh) i (omega (arith, frame_length g s.fields.fmbw s.fields.fmbh)))

  pub block_number_is : (b : Block) (r : ℕ) → r < blocks_of g s.fields.fmbw s.fields.fmbh → get_or (frame_order g s.fields.fmbw s.fields.fmbh) r (block 0 0 0) ≡ b → block_number s b ≡ is r
  unfolding block_number
  block_number_is b r hr e =
      rw (← eg) (fits_on s (position (is_block b) (frame_order g s.fields.fmbw s.fields.fmbh)) fit ∙ block_there g s.fields.fmbw s.fields.fmbh b r hr e)

  pub block_number_absent : (b : Block) → has_block g s.fields.fmbw s.fields.fmbh b ≡ false → block_number s b ≡ absent
  unfolding block_number
  block_number_absent b n =
      rw (← eg) (fits_on s (position (is_block b) (frame_order g s.fields.fmbw s.fields.fmbh)) fit ∙ block_nowhere g s.fields.fmbw s.fields.fmbh b n)

  pub macro_block_of_is : (b : Block) → has_block g s.fields.fmbw s.fields.fmbh b ≡ true → macro_block_of s b ≡ is (macro_of g b)
  unfolding macro_block_of on_session
  macro_block_of_is b t = rw (← eg, fit, t)

  pub macro_block_of_absent : (b : Block) → has_block g s.fields.fmbw s.fields.fmbh b ≡ false → macro_block_of s b ≡ absent
  unfolding macro_block_of on_session
  macro_block_of_absent b t = rw (← eg, fit, t)

  pub sample_offset_is : (b : Block) (c r : ℕ) → (has_block g s.fields.fmbw s.fields.fmbh b && ltb c 8 && ltb r 8) ≡ true → sample_offset s b c r ≡ is (sample_at g s.fields.fmbw s.fields.fmbh b c r)
  unfolding sample_offset on_session
  sample_offset_is b c r t = rw (← eg, fit, t)

  pub sample_offset_absent : (b : Block) (c r : ℕ) → (has_block g s.fields.fmbw s.fields.fmbh b && ltb c 8 && ltb r 8) ≡ false → sample_offset s b c r ≡ absent
  unfolding sample_offset on_session
  sample_offset_absent b c r t = rw (← eg, fit, t)

module _ (s : Session) (fit : session_fits s ≡ true) where
  pub macro_block_at_is : (i : ℕ) (q : Place) → i < macro_blocks_of s.fields.fmbw s.fields.fmbh → q ≡ get_or (coded_macros s.fields.fmbw s.fields.fmbh) i (at 0 0) → macro_block_at s i ≡ is q
  unfolding macro_block_at
  macro_block_at_is i q hi e =
      rw e (fits_on s (element i (coded_macros s.fields.fmbw s.fields.fmbh)) fit
      ∙ element_is (coded_macros s.fields.fmbw s.fields.fmbh) i (at 0 0) (omega (arith, (macro_order s.fields.fmbw s.fields.fmbh).all)))

  pub macro_block_at_absent : (i : ℕ) → macro_blocks_of s.fields.fmbw s.fields.fmbh ≤ i → macro_block_at s i ≡ absent
  unfolding macro_block_at
  macro_block_at_absent i hi =
      fits_on s (element i (coded_macros s.fields.fmbw s.fields.fmbh)) fit
      ∙ element_absent (coded_macros s.fields.fmbw s.fields.fmbh) i (omega (arith, (macro_order s.fields.fmbw s.fields.fmbh).all))

  pub macro_block_number_is : (x y r : ℕ) → r < macro_blocks_of s.fields.fmbw s.fields.fmbh → get_or (coded_macros s.fields.fmbw s.fields.fmbh) r (at 0 0) ≡ at x y → macro_block_number s x y ≡ is r
  unfolding macro_block_number
  macro_block_number_is x y r hr e =
      fits_on s (position (is_place x y) (coded_macros s.fields.fmbw s.fields.fmbh)) fit ∙ macro_there s.fields.fmbw s.fields.fmbh x y r hr e

  pub macro_block_number_absent : (x y : ℕ) → (x < s.fields.fmbw → y < s.fields.fmbh → ⊥) → macro_block_number s x y ≡ absent
  unfolding macro_block_number
  macro_block_number_absent x y n =
      fits_on s (position (is_place x y) (coded_macros s.fields.fmbw s.fields.fmbh)) fit ∙ macro_nowhere s.fields.fmbw s.fields.fmbh x y n

-- ---- a session that does not fit
module _ (s : Session) (unfit : session_fits s ≡ false) where
  pub block_at_8 : (i : ℕ) → block_at s i ≡ refused 8
  unfolding block_at
  block_at_8 i = unfit_on s _ unfit

  pub block_number_8 : (b : Block) → block_number s b ≡ refused 8
  unfolding block_number
  block_number_8 b = unfit_on s _ unfit

  pub macro_block_at_8 : (i : ℕ) → macro_block_at s i ≡ refused 8
  unfolding macro_block_at
  macro_block_at_8 i = unfit_on s _ unfit

  pub macro_block_number_8 : (x y : ℕ) → macro_block_number s x y ≡ refused 8
  unfolding macro_block_number
  macro_block_number_8 x y = unfit_on s _ unfit

  pub macro_block_of_8 : (b : Block) → macro_block_of s b ≡ refused 8
  unfolding macro_block_of
  macro_block_of_8 b = unfit_on s _ unfit

  pub sample_offset_8 : (b : Block) (c r : ℕ) → sample_offset s b c r ≡ refused 8
  unfolding sample_offset
  sample_offset_8 b c r = unfit_on s _ unfit
