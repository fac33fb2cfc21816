-- "For the plane of the settings it gives after each accepted packet one byte per tile of Ask 10's size": the frame call with a map.
use Rattle.std.specs.Prelude.{ℕ, Bool, true, List, eqb, length}
use Rattle.bitstream.specs.Numbers.{wrong_length, not_genuine, bad_settings}
use Rattle.bitstream.specs.Reading.{refused, choose}
use Rattle.headers.specs.declared.Session.{Session}
use Rattle.headers.specs.Fits.{session_fits}
use Rattle.settings.specs.declared.Settings.{Settings}
use Rattle.settings.specs.Settings.{settings_fit}
use Rattle.ways.specs.Ways.{first_way}
use Rattle.reading.specs.Answer.{answer_for}
use Rattle.asked_frame.specs.Answer.{State, Done, done}
use Rattle.calls.specs.Call.{Call, by_rules}
use Rattle.tile_calls.specs.declared.MapLength.{MapLength}
use Rattle.tile_calls.specs.declared.MapLength.TheVariants as answer
pub use Rattle.map_update.specs.Map.{map_length_of, map_after, IfAccepted}

-- 20, then the identification part of 8
unfoldable pub length_for : Settings → Session → MapLength
length_for set s = choose (settings_fit set) (choose (session_fits s) (answer.Is (map_length_of set s)) (answer.Refused not_genuine 0)) (answer.Refused bad_settings 0)

-- ---- the call
-- a refusal before the frame call changes nothing
abbrev pub refused_by : ℕ → State → Call → Done
refused_by k st c = done (answer_for st.session (refused k 0)) c.new c.memory

-- "a map of another length, which is 1 like the other lengths": behind the identification part of 8, with which the frame call begins
unfoldable pub map_fits : Settings → Session → List ℕ → Bool
map_fits set s map = choose (session_fits s) (eqb (length map) (map_length_of set s)) true

-- "settings outside Ask 10's ranges, 20 before all other checks"; else a frame call
unfoldable pub frame_for : Settings → State → Call → List ℕ → Done
frame_for set st c map = choose (settings_fit set) (choose (map_fits set st.session map) (by_rules first_way st c) (refused_by wrong_length st c)) (refused_by bad_settings st c)

-- what a call leaves: all that a frame call leaves, and the map
pub record TilesDone : Type 0 where
  pub frame : Done
  pub map : List ℕ

abbrev pub tiles_done : Done → List ℕ → TilesDone
tiles_done frame map = record { frame = frame; map = map }

-- "the previous frame" is previous as lent to the call
unfoldable pub tiles_call : Settings → State → Call → List ℕ → TilesDone
tiles_call set st c map = let d = frame_for set st c map in tiles_done d (map_after set st.session d.answer.verdict st.previous d.new map)
