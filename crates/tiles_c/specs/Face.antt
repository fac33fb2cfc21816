-- The face for C: what each call returns and leaves. Sessions and answers are lists of numbers, as `session_list` has them; settings are 4 numbers.
use Rattle.std.specs.Prelude.{ℕ, List, [], ◌∷◌, eqb, length}
use Rattle.bitstream.specs.Reading.{choose}
use Rattle.bitstream.specs.Numbers.{wrong_length, bad_settings}
use Rattle.settings.specs.Settings.{settings_fit}
use Rattle.settings_list.specs.List.{settings_of}
use Rattle.calls.specs.Call.{Call}
use Rattle.session_list.specs.List.{Returned, gives, session_of, lists_number, answers}
use Rattle.frame_c.specs.Face.{FrameReturned, frame_gives, state_of, done_returned}
use Rattle.tile_calls.specs.declared.MapLength.{MapLength}
use Rattle.tile_calls.specs.declared.MapLength.TheVariants.{Is, Refused}
use Rattle.tile_calls.specs.Call.{length_for, tiles_call}

-- by what the lists are refused, 0 if by nothing: "20 before all other checks" that can be made on a list of 4 numbers
unfoldable pub tiles_number : (wanted : ℕ) (settings session : List ℕ) (room : ℕ) → ℕ
tiles_number wanted settings session room = choose (eqb (length settings) 4) (choose (settings_fit (settings_of settings)) (lists_number wanted session room) bad_settings) wrong_length

-- 0 and the length; or the number of the refusal, and the list as it was
abbrev pub length_returned : List ℕ → MapLength → Returned
length_returned old (Is n) = gives 0 (n ∷ [])
length_returned old (Refused k e) = gives k old

unfoldable pub length_call : (settings session old : List ℕ) → Returned
length_call settings session old =
    let k = tiles_number 1 settings session (length old) in
    choose (eqb k 0) (length_returned old (length_for (settings_of settings) (session_of session))) (gives k old)

-- what a frame call returns and leaves, and the map
pub record TilesReturned : Type 0 where
  pub frame : FrameReturned
  pub map : List ℕ

abbrev pub tiles_gives : FrameReturned → List ℕ → TilesReturned
tiles_gives frame map = record { frame = frame; map = map }

unfoldable pub tiles_frame_call : (settings session old golden previous : List ℕ) → Call → List ℕ → TilesReturned
tiles_frame_call settings session old golden previous c map =
    let k = tiles_number 8 settings session (length old) in
    let t = tiles_call (settings_of settings) (state_of session golden previous) c map in
    choose (eqb k 0) (tiles_gives (done_returned session t.frame) t.map) (tiles_gives (frame_gives (answers k session old) c.new c.memory) map)
