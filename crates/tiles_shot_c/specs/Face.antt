-- The face of `tiles_shot` for C: sessions, names and settings are lists of numbers.
use Rattle.std.specs.Prelude.{ℕ, List, eqb, length}
use Rattle.bitstream.specs.Reading.{choose}
use Rattle.settings_list.specs.List.{settings_of}
use Rattle.session_list.specs.List.{session_of}
use Rattle.work_memory.specs.Memory.{Memory}
use Rattle.opening.specs.Call.{shot_call}
use Rattle.shot_c.specs.Face.{names_in, lists, ShotReturned, shot_gives, done_returned}
use Rattle.tiles_shot.specs.Call.{tiles_shot}
use Rattle.settings_list.specs.ShotLists.{tiles_shot_number}

-- what a shot call returns and leaves, and the maps
pub record TilesShotReturned : Type 0 where
  pub shot : ShotReturned
  pub maps : List ℕ

abbrev pub tiles_shot_gives : ShotReturned → List ℕ → TilesShotReturned
tiles_shot_gives shot maps = record { shot = shot; maps = maps }

unfoldable pub tiles_shot_face : (settings session names lengths joined table : List ℕ) → Memory → (first second third answers maps : List ℕ) → TilesShotReturned
tiles_shot_face settings session names lengths joined table memory first second third answers maps =
    let k = tiles_shot_number settings (length session) (length names) in
    let t = tiles_shot (settings_of settings) (shot_call (session_of session) (names_in names) lengths joined table memory first second third answers) maps in
    choose (eqb k 0) (tiles_shot_gives (done_returned session names t.shot) t.maps) (tiles_shot_gives (shot_gives (lists k session names) first second third memory answers) maps)
