-- A call, one law for each way that it goes. Assumes nothing.
use Prim.Native.Nat.{ℕ, ◌*◌}
use native.Mathlib.Omega.{arith}
use mathlib.Core.Path.{◌≡◌, refl, sym, ap, ◌∙◌, subst}
use mathlib.Core.Bool.{Bool, true, false}
use mathlib.Core.List.{List}
use borrow.Author.Tests.{eqb-true}
use lib.Dec.{eqb}
use lib.ListN.{length}
use Rattle.bitstream.specs.Reading.{Outcome, got, refused, choose}
use Rattle.headers.specs.declared.Session.{Session}
use Rattle.headers.specs.Fits.{session_fits}
use Rattle.bitstream.proofs.ListLaws.{and_both}
use Rattle.headers.proofs.Fitting.{all_at}
use Rattle.settings.specs.declared.Settings.{Settings}
use Rattle.settings.specs.Settings.{settings_fit}
use Rattle.ways.specs.Ways.{first_way}
use Rattle.work_memory.specs.Memory.{Memory}
use Rattle.work_memory.specs.Lengths.{blocks}
use Rattle.reading.specs.declared.FrameAnswer.{FrameAnswer}
use Rattle.reading.specs.Answer.{Asked, read, answer_for}
use Rattle.asked_frame.specs.Answer.{State, Done, state, done}
use Rattle.calls.specs.Lengths.{buffers_fit}
use Rattle.calls.specs.Call.{Call, call, lengths_hold, outcome_of, by_rules}
use Rattle.tile_calls.specs.declared.MapLength.TheVariants as length
use Rattle.tile_calls.specs.Call.{length_for, map_fits, frame_for, tiles_done, tiles_call}
use Rattle.map_update.specs.Map.{map_length_of, map_after, Lent, IfAccepted}

-- ---- the length of a map
module _ (set : Settings) (s : Session) where
  pub length_20 : settings_fit set ≡ false → length.Refused 20 0 ≡ length_for set s
  unfolding length_for
  length_20 h = rw h

  pub length_8 : settings_fit set ≡ true → session_fits s ≡ false → length.Refused 8 0 ≡ length_for set s
  unfolding length_for
  length_8 h g = rw (h, g)

  pub length_is : settings_fit set ≡ true → session_fits s ≡ true → (n : ℕ) → n ≡ map_length_of set s → length.Is n ≡ length_for set s
  unfolding length_for
  length_is h g n e = rw (h, g) (ap length.Is e)

  module _ (map : List ℕ) where
    pub map_here : session_fits s ≡ true → (n : ℕ) → n ≡ map_length_of set s → eqb (length map) n ≡ map_fits set s map
    unfolding map_fits
    map_here g n e = rw g (ap (eqb (length map)) e)

    pub map_any : session_fits s ≡ false → true ≡ map_fits set s map
    unfolding map_fits
    map_any g = rw g

    pub map_long : session_fits s ≡ true → map_fits set s map ≡ true → length map ≡ map_length_of set s
    map_long g h = eqb-true (length map) (map_length_of set s) (map_here g (map_length_of set s) refl ∙ h)

-- ---- a call
passed : (a b : Bool) (o : Outcome Asked) {x : Asked} {e : ℕ} → choose a (choose b o (refused 1 0)) (refused 8 0) ≡ got x e → (a ≡ true) × (b ≡ true)
passed true true o h = (refl, refl)
passed true false o h = let z : ◌≡◌ {A = ℕ} 0 1 = cc in absurd (omega arith)
passed false b o h = let z : ◌≡◌ {A = ℕ} 0 1 = cc in absurd (omega arith)

-- an accepted call is lent what is published
pub outcome_passed : (st : State) (c : Call) {a : Asked} {e : ℕ} → outcome_of st c ≡ got a e → (session_fits st.session ≡ true) × (lengths_hold st c ≡ true)
unfolding outcome_of
outcome_passed st c h = passed (session_fits st.session) (lengths_hold st c) (read st.session c.table c.packet) h

pub lent_both : (st : State) (c : Call) → lengths_hold st c ≡ true → (length st.previous ≡ 64 * blocks st.session) × (length c.new ≡ 64 * blocks st.session)
unfolding buffers_fit
lent_both st c h =
    let b = (and_both _ _ h).0 in
    (eqb-true _ _ (all_at _ 1 b (omega arith)), eqb-true _ _ (all_at _ 2 b (omega arith)))

module _ (set : Settings) (s : Session) (golden previous packet table new : List ℕ) (m : Memory) (map : List ℕ) where
  abbrev st : State
  st = state s golden previous

  abbrev c : Call
  c = call packet table m new

  pub call_20 : settings_fit set ≡ false → (a : FrameAnswer) → a ≡ answer_for s (refused 20 0) → tiles_done (done a new m) map ≡ tiles_call set st c map
  unfolding tiles_call frame_for
  call_20 h a e = rw h (ap (λ (a : FrameAnswer). tiles_done (done a new m) map) e)

  module _ (fit : settings_fit set ≡ true) where
    pub call_1 : map_fits set s map ≡ false → (a : FrameAnswer) → a ≡ answer_for s (refused 1 0) → tiles_done (done a new m) map ≡ tiles_call set st c map
    unfolding tiles_call frame_for
    call_1 h a e = rw (fit, h) (ap (λ (a : FrameAnswer). tiles_done (done a new m) map) e)

    module _ (h : map_fits set s map ≡ true) (d : Done) (e : d ≡ by_rules first_way st c) where
      pub call_made : (l : List ℕ) → l ≡ map_after set s d.answer.verdict previous d.new map → tiles_done d l ≡ tiles_call set st c map
      unfolding tiles_call frame_for
      call_made l el = rw (fit, h) ((λ i. tiles_done (e i) (el i)) ∙ ap (λ (d : Done). tiles_done (by_rules first_way st c) (map_after set s d.answer.verdict previous d.new map)) e)

      pub call_lent : length d.new ≡ length new → IfAccepted d.answer.verdict (Lent set s previous d.new map)
      unfolding by_rules
      call_lent size = subst (λ (x : Done). IfAccepted x.answer.verdict (Lent set s previous d.new map)) (sym e) (by (outcome_of st c) refl)
        where
          by : (o : Outcome Asked) → outcome_of st c ≡ o → IfAccepted (answer_for s o).verdict (Lent set s previous d.new map)
          by (refused k i) q = tt
          by (got a i) q =
              let p = outcome_passed st c q in
              let b = lent_both st c p.1 in
              (p.0, b.0, size ∙ b.1, map_long set s map p.0 h)
