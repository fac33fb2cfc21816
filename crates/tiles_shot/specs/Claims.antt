-- What is promised of the maps of a shot: each is the map of the call of its packet, so all that is said of that call's map holds of it.
use Rattle.std.specs.Prelude.{ℕ, ◌+◌, ◌*◌, ◌<◌, ◌≡◌, false, List, [], ◌++◌, length, get_or, take, drop, replicate}
use Rattle.bitstream.specs.Reading.{refused}
use Rattle.geometry.specs.Sizes.{across, squares as tiles}
use Rattle.headers.specs.Sizes.{format}
use Rattle.settings.specs.declared.Settings.{Settings}
use Rattle.ways.specs.Ways.{first_way}
use Rattle.reading.specs.Answer.{Asked}
use Rattle.asked_frame.specs.Answer.{State}
use Rattle.calls.specs.Call.{Call, outcome_of, by_rules}
use Rattle.packet_list.specs.Packets.{packets_in, total}
use Rattle.shot_packets.specs.Play.{Shot, state_of, call_of, played}
use Rattle.opening.specs.Call.{ShotCall, shot_number}
use Rattle.shot.specs.Call.{start_of, unchanged, by_shot}
use Rattle.tile_calls.specs.Call.{map_length_of, tiles_call}
use Rattle.tile_calls.specs.Said.{AcceptedCall, IsTileOf, QuietTile}
use Rattle.shot_maps.specs.Maps.{maps_number, maps_after}
use Rattle.tiles_shot.specs.Call.{tiles_shot_done, tiles_shot}

module _ (set : Settings) (c : ShotCall) (maps : List ℕ) where
  -- a call that is not refused
  pub record NotRefused : Type 0 where
    pub by_maps : maps_number set c.session (length c.lengths) (length maps) ≡ 0
    pub by_shot_law : shot_number c ≡ 0

  -- map i of the maps
  abbrev pub map_at : ℕ → List ℕ → List ℕ
  map_at i list = let n = map_length_of set c.session in take n (drop (n * i) list)

  -- the shot before packet i, and the call of that packet
  abbrev pub before : ℕ → Shot
  before i = played (by_rules first_way) c.table (start_of c) (take i (packets_in c.lengths c.joined))

  abbrev pub state_at : ℕ → State
  state_at i = state_of (before i)

  abbrev pub call_at : ℕ → Call
  call_at i = call_of c.table (before i) (get_or (packets_in c.lengths c.joined) i [])

-- ---- map i is the map of the per-packet call: the same packet, state and settings
abbrev pub MapsEach : Type 0
MapsEach = (set : Settings) (c : ShotCall) (maps : List ℕ) → NotRefused set c maps → (i : ℕ) → i < length c.lengths
    → map_at set c maps i (tiles_shot set c maps).maps ≡ (tiles_call set (state_at set c maps i) (call_at set c maps i) (map_at set c maps i maps)).map

-- so what is said of that map is said of map i
pub record MapSays (set : Settings) (c : ShotCall) (maps : List ℕ) (i : ℕ) : Type 0 where
  -- "A refused packet leaves the map as it was"
  pub refused_leaves : (k e : ℕ) → outcome_of (state_at set c maps i) (call_at set c maps i) ≡ refused k e → map_at set c maps i (tiles_shot set c maps).maps ≡ map_at set c maps i maps
  -- "A tile that neither holds a coded block nor has one across any of its four sides must be 0"
  pub quiet : (a : Asked) → AcceptedCall set (state_at set c maps i) (call_at set c maps i) (map_at set c maps i maps) a
      → (x y : ℕ) → IsTileOf set (state_at set c maps i) (call_at set c maps i) (map_at set c maps i maps) x y → QuietTile set (state_at set c maps i) (call_at set c maps i) (map_at set c maps i maps) x y a
      → let s = (state_at set c maps i).session in get_or (map_at set c maps i (tiles_shot set c maps).maps) (y * tiles set.tile (8 * across (format s) s.fields.fmbw set.plane) + x) 0 ≡ 0
  -- an accepted empty packet: all 0
  pub repeat_zero : (a : Asked) → AcceptedCall set (state_at set c maps i) (call_at set c maps i) (map_at set c maps i maps) a → (call_at set c maps i).packet ≡ []
      → map_at set c maps i (tiles_shot set c maps).maps ≡ replicate (map_length_of set (state_at set c maps i).session) 0
  -- "An intra frame accepted without references gives all 1"
  pub first_one : (a : Asked) → AcceptedCall set (state_at set c maps i) (call_at set c maps i) (map_at set c maps i maps) a → (state_at set c maps i).session.references ≡ false
      → map_at set c maps i (tiles_shot set c maps).maps ≡ replicate (map_length_of set (state_at set c maps i).session) 1

abbrev pub MapsSay : Type 0
MapsSay = (set : Settings) (c : ShotCall) (maps : List ℕ) → NotRefused set c maps → (i : ℕ) → i < length c.lengths → MapSays set c maps i

-- ---- a shot may be cut anywhere: its maps are those of both parts, joined
abbrev pub MapsCut : Type 0
MapsCut = (set : Settings) (table : List ℕ) (h : Shot) (first second joined maps : List ℕ)
    → let k = map_length_of set h.session * length first in
    maps_after set table h (packets_in (first ++ second) joined) maps
    ≡ maps_after set table h (packets_in first joined) (take k maps)
    ++ maps_after set table (played (by_rules first_way) table h (packets_in first joined)) (packets_in second (drop (total first) joined)) (drop k maps)

-- ---- beside the maps the call is the shot call, with 20 and the maps' 1 in front; a refusal of the call changes nothing
pub record BesideMaps (set : Settings) (c : ShotCall) (maps : List ℕ) : Type 0 where
  pub is_shot : maps_number set c.session (length c.lengths) (length maps) ≡ 0 → (tiles_shot set c maps).shot ≡ by_shot first_way c
  pub in_front : (k : ℕ) → maps_number set c.session (length c.lengths) (length maps) ≡ k → (k ≡ 0 → ⊥) → tiles_shot set c maps ≡ tiles_shot_done (unchanged k c) maps
  pub behind : maps_number set c.session (length c.lengths) (length maps) ≡ 0 → (k : ℕ) → shot_number c ≡ k → (k ≡ 0 → ⊥) → tiles_shot set c maps ≡ tiles_shot_done (unchanged k c) maps

abbrev pub ShotBesideMaps : Type 0
ShotBesideMaps = (set : Settings) (c : ShotCall) (maps : List ℕ) → BesideMaps set c maps
