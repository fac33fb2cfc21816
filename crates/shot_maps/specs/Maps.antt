-- The maps of a shot: one for each packet, one behind the other, in the order of the packets.
use Rattle.std.specs.Prelude.{ℕ, ◌+◌, ◌*◌, Bool, true, List, [], ◌∷◌, ◌++◌, eqb, take, drop}
use Rattle.bitstream.specs.Reading.{choose}
use Rattle.bitstream.specs.Numbers.{wrong_length, bad_settings}
use Rattle.headers.specs.declared.Session.{Session}
use Rattle.headers.specs.Fits.{session_fits}
use Rattle.settings.specs.declared.Settings.{Settings}
use Rattle.settings.specs.Settings.{settings_fit}
use Rattle.ways.specs.Ways.{first_way}
use Rattle.calls.specs.Call.{by_rules}
use Rattle.shot_packets.specs.Play.{Shot, state_of, call_of, one_more}
use Rattle.tile_calls.specs.Call.{map_length_of, tiles_call}

-- "a map of another length, which is 1 like the other lengths": behind the identification part of 8, with which the shot call begins
unfoldable pub maps_fit : Settings → Session → (packets maps : ℕ) → Bool
maps_fit set s packets maps = choose (session_fits s) (eqb maps (map_length_of set s * packets)) true

-- by what settings and maps are refused, 0 if by nothing: "settings outside Ask 10's ranges, 20 before all other checks"
unfoldable pub maps_number : Settings → Session → (packets maps : ℕ) → ℕ
maps_number set s packets maps = choose (settings_fit set) (choose (maps_fit set s packets maps) 0 wrong_length) bad_settings

-- "after each accepted packet": the map of the call of this one packet, in the state that the shot has reached
abbrev pub map_of : Settings → (table : List ℕ) → Shot → (packet map : List ℕ) → List ℕ
map_of set table h packet map = (tiles_call set (state_of h) (call_of table h packet) map).map

-- the maps after the packets of a shot: each stands at the place of its packet, and what is behind the last is left
unfoldable pub maps_after : Settings → (table : List ℕ) → Shot → List (List ℕ) → (maps : List ℕ) → List ℕ
maps_after set table h [] maps = maps
maps_after set table h (p ∷ ps) maps =
    let n = map_length_of set h.session in
    map_of set table h p (take n maps) ++ maps_after set table (one_more (by_rules first_way) table h p) ps (drop n maps)

-- ---- what the functions between ask and promise
-- a list of parts of n numbers, one behind the other, in which part i is changed
abbrev pub with_part : (n i : ℕ) → (List ℕ → List ℕ) → List ℕ → List ℕ
with_part n i change list = take (n * i) list ++ (change (take n (drop (n * i) list)) ++ drop (n * i + n) list)
