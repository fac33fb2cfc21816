-- The shot call with settings and maps.
use Rattle.std.specs.Prelude.{ℕ, ◌≡◌, List, eqb, length}
use Rattle.bitstream.specs.Reading.{choose}
use Rattle.settings.specs.declared.Settings.{Settings}
use Rattle.ways.specs.Ways.{first_way}
use Rattle.packet_list.specs.Packets.{packets_in}
use Rattle.shot.specs.declared.ShotVerdict.{ShotVerdict}
use Rattle.shot.specs.declared.ShotVerdict.TheVariants.{Played, Refused}
use Rattle.opening.specs.Call.{ShotCall}
use Rattle.shot.specs.Call.{ShotDone, start_of, unchanged, by_shot}
use Rattle.shot_maps.specs.Maps.{maps_number, maps_after}

-- 20 and the maps' 1 in front; else a shot call
unfoldable pub shot_for : Settings → ShotCall → (maps : List ℕ) → ShotDone
shot_for set c maps = let k = maps_number set c.session (length c.lengths) (length maps) in choose (eqb k 0) (by_shot first_way c) (unchanged k c)

-- the maps of the packets; a call that is refused leaves all
abbrev pub maps_by : Settings → ShotCall → ShotVerdict → List ℕ → List ℕ
maps_by set c Played maps = maps_after set c.table (start_of c) (packets_in c.lengths c.joined) maps
maps_by set c (Refused k) maps = maps

-- what a call leaves: all that a shot call leaves, and the maps
pub record TilesShotDone : Type 0 where
  pub shot : ShotDone
  pub maps : List ℕ

abbrev pub tiles_shot_done : ShotDone → List ℕ → TilesShotDone
tiles_shot_done shot maps = record { shot = shot; maps = maps }

unfoldable pub tiles_shot : Settings → ShotCall → List ℕ → TilesShotDone
tiles_shot set c maps = let d = shot_for set c maps in tiles_shot_done d (maps_by set c d.answer.verdict maps)

-- what `tiles_shot::shot` promises
abbrev pub TilesShotPromise : Settings → ShotCall → List ℕ → TilesShotDone → Type 0
TilesShotPromise set c maps d = d ≡ tiles_shot set c maps
