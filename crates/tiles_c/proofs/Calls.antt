-- The face's calls, one law for each way that they go. Assumes nothing.
use Prim.Native.Nat.{ℕ}
use native.Mathlib.Omega.{arith}
use mathlib.Core.Path.{◌≡◌, refl, sym, ap, ◌∙◌}
use mathlib.Core.Bool.{Bool, true, false}
use mathlib.Core.List.{List}
use borrow.Author.Tests.{eq-eqb, ne_eqb, eqb-true}
use lib.Dec.{eqb}
use lib.ListN.{length}
use Rattle.bitstream.specs.Reading.{choose}
use Rattle.headers.specs.declared.Session.{Session}
use Rattle.settings.specs.declared.Settings.{Settings}
use Rattle.settings.specs.Settings.{settings_fit}
use Rattle.settings_list.specs.List.{settings_of}
use Rattle.asked_frame.specs.Answer.{Done, state}
use Rattle.calls.specs.Call.{Call}
use Rattle.session_list.specs.List.{Returned, gives, session_of, lists_number, Answered, answers}
use Rattle.frame_c.specs.Face.{frame_gives}
use Rattle.frame_lists.specs.FrameLists.{verdict_returned}
use Rattle.session_list.proofs.Lists.{lengths}
use Rattle.tile_calls.specs.declared.MapLength.{MapLength}
use Rattle.tile_calls.specs.Call.{length_for, TilesDone, tiles_call}
use Rattle.tiles_c.specs.Face.{tiles_number, length_returned, length_call, tiles_gives, tiles_frame_call}

-- ---- by what the lists are refused
module _ (wanted : ℕ) (settings session : List ℕ) (room : ℕ) where
  pub number_1 : (length settings ≡ 4 → ⊥) → 1 ≡ tiles_number wanted settings session room
  unfolding tiles_number
  number_1 h = rw (ne_eqb _ _ h)

  module _ (h : length settings ≡ 4) (set : Settings) (e : set ≡ settings_of settings) where
    pub number_20 : settings_fit set ≡ false → 20 ≡ tiles_number wanted settings session room
    unfolding tiles_number
    number_20 f = rw (eq-eqb _ _ h, ← e, f)

    pub number_session : settings_fit set ≡ true → (k : ℕ) → k ≡ lists_number wanted session room → k ≡ tiles_number wanted settings session room
    unfolding tiles_number
    number_session f k q = rw (eq-eqb _ _ h, ← e, f) q

  -- lists that are not refused have their lengths
  pub tiles_lengths : tiles_number wanted settings session room ≡ 0 → (length settings ≡ 4) × (length session ≡ 19) × (room ≡ wanted)
  unfolding tiles_number
  tiles_lengths t = go (eqb (length settings) 4) (settings_fit (settings_of settings)) refl t
    where
      go : (a b : Bool) → eqb (length settings) 4 ≡ a → ◌≡◌ {A = ℕ} (choose a (choose b (lists_number wanted session room) 20) 1) 0 → (length settings ≡ 4) × (length session ≡ 19) × (room ≡ wanted)
      go true true h z = let l = lengths wanted session room z in (eqb-true _ _ h, l.0, l.1)
      go true false h z = absurd (omega arith)
      go false b h z = absurd (omega arith)

-- ---- the length of a map
module _ (settings session old : List ℕ) {k : ℕ} (e : k ≡ tiles_number 1 settings session (length old)) where
  pub length_made : k ≡ 0 → {set : Settings} {s : Session} {m : MapLength} {x : Returned} → set ≡ settings_of settings → s ≡ session_of session → m ≡ length_for set s → x ≡ length_returned old m
      → x ≡ length_call settings session old
  unfolding length_call
  length_made z f g h q = rw (eq-eqb _ 0 (sym e ∙ z)) (q ∙ ap (length_returned old) (h ∙ (λ i. length_for (f i) (g i))))

  pub length_unmade : (k ≡ 0 → ⊥) → gives k old ≡ length_call settings session old
  unfolding length_call
  length_unmade z = rw (ne_eqb _ 0 (λ w. z (e ∙ w))) (ap (λ (m : ℕ). gives m old) e)

-- ---- the frame call
module _ (settings session old golden previous : List ℕ) (c : Call) (map : List ℕ) {k : ℕ} (e : k ≡ tiles_number 8 settings session (length old)) where
  pub tiles_made : k ≡ 0 → {set : Settings} {s : Session} {t : TilesDone} {a : Answered} → set ≡ settings_of settings → s ≡ session_of session
      → t ≡ tiles_call set (state s golden previous) c map → a ≡ verdict_returned session t.frame.answer.header t.frame.answer.session t.frame.answer.verdict
      → tiles_gives (frame_gives a t.frame.new t.frame.memory) t.map ≡ tiles_frame_call settings session old golden previous c map
  unfolding tiles_frame_call
  tiles_made z f g h q = rw (eq-eqb _ 0 (sym e ∙ z), q, h, f, g)

  pub tiles_unmade : (k ≡ 0 → ⊥) → tiles_gives (frame_gives (answers k session old) c.new c.memory) map ≡ tiles_frame_call settings session old golden previous c map
  unfolding tiles_frame_call
  tiles_unmade z = rw (ne_eqb _ 0 (λ w. z (e ∙ w))) (ap (λ (m : ℕ). tiles_gives (frame_gives (answers m session old) c.new c.memory) map) e)
