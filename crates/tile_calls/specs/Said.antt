-- What is said of the map of a call.
use Rattle.std.specs.Prelude.{ℕ, ◌+◌, ◌*◌, ◌<◌, ◌≡◌, true, false, List, [], ◌⊎◌, length, get_or, replicate}
use Rattle.bitstream.specs.Reading.{got, refused}
use Rattle.geometry.specs.Sizes.{across, squares as tiles}
use Rattle.headers.specs.Sizes.{format}
use Rattle.settings.specs.declared.Settings.{Settings}
use Rattle.settings.specs.Settings.{settings_fit}
use Rattle.reading.specs.Answer.{Asked}
use Rattle.asked_frame.specs.Answer.{State, picture}
use Rattle.calls.specs.Call.{Call, outcome_of}
use Rattle.tile_map.specs.Quiet.{IsOne, InTile, InPlane, Differs, Quiet}
use Rattle.tile_calls.specs.Call.{map_fits, tiles_call}
use Rattle.map_update.specs.Map.{map_length_of}

module _ (set : Settings) (st : State) (c : Call) (map : List ℕ) where
  -- a call that is accepted: its settings and map pass, and its packet asks for a
  pub record AcceptedCall (a : Asked) : Type 0 where
    pub settings : settings_fit set ≡ true
    pub map_fits_law : map_fits set st.session map ≡ true
    pub place : ℕ
    pub asked : outcome_of st c ≡ got a place

  -- the bytes of the map afterwards: tile (x, y)
  abbrev pub byte_at : ℕ → ℕ → ℕ
  byte_at x y = let s = st.session in get_or (tiles_call set st c map).map (y * tiles set.tile (8 * across (format s) s.fields.fmbw set.plane) + x) 0

  module _ (x y : ℕ) where
    abbrev pub IsTileOf : Type 0
    IsTileOf = let s = st.session in IsOne (format s) s.fields.fmbw s.fields.fmbh set.plane set.tile x y

    -- "neither holds a coded block nor has one across any of its four sides"
    abbrev pub QuietTile : Asked → Type 0
    QuietTile a = let s = st.session in Quiet (format s) s.fields.fmbw s.fields.fmbh set.plane set.tile (picture s a st.golden st.previous) x y

-- "A tile that neither holds a coded block nor has one across any of its four sides must be 0 by the rules already shown"
abbrev pub QuietIsZero : Type 0
QuietIsZero = (set : Settings) (st : State) (c : Call) (map : List ℕ) (a : Asked) → AcceptedCall set st c map a
    → (x y : ℕ) → IsTileOf set st c map x y → QuietTile set st c map x y a → byte_at set st c map x y ≡ 0

-- an accepted empty packet: all 0
abbrev pub RepeatIsZero : Type 0
RepeatIsZero = (set : Settings) (st : State) (c : Call) (map : List ℕ) (a : Asked) → AcceptedCall set st c map a → c.packet ≡ []
    → (tiles_call set st c map).map ≡ replicate (map_length_of set st.session) 0

-- "An intra frame accepted without references gives all 1"
abbrev pub FirstIsOne : Type 0
FirstIsOne = (set : Settings) (st : State) (c : Call) (map : List ℕ) (a : Asked) → AcceptedCall set st c map a → st.session.references ≡ false
    → (tiles_call set st c map).map ≡ replicate (map_length_of set st.session) 1

-- with references: 1 exactly if some sample of the tile differs between the new frame and previous
pub record SaysChange (set : Settings) (st : State) (c : Call) (map : List ℕ) : Type 0 where
  pub one : (x y col row : ℕ) → let s = st.session in let f = format s in let w = s.fields.fmbw in let h = s.fields.fmbh in
      IsTileOf set st c map x y → InTile f w h set.plane set.tile x y col row → InPlane f w h set.plane set.tile col row
      → Differs f w h set.plane set.tile st.previous (tiles_call set st c map).frame.new col row → byte_at set st c map x y ≡ 1
  pub only : (x y : ℕ) → let s = st.session in let f = format s in let w = s.fields.fmbw in let h = s.fields.fmbh in
      IsTileOf set st c map x y → byte_at set st c map x y ≡ 1
      → (col : ℕ) × (row : ℕ) × InTile f w h set.plane set.tile x y col row × InPlane f w h set.plane set.tile col row
      × Differs f w h set.plane set.tile st.previous (tiles_call set st c map).frame.new col row

abbrev pub ChangeIsSaid : Type 0
ChangeIsSaid = (set : Settings) (st : State) (c : Call) (map : List ℕ) (a : Asked) → AcceptedCall set st c map a → st.session.references ≡ true → SaysChange set st c map

-- every byte of it is 0 or 1, and it has its length
abbrev pub ZeroOrOne : Type 0
ZeroOrOne = (set : Settings) (st : State) (c : Call) (map : List ℕ) (a : Asked) → AcceptedCall set st c map a
    → (length (tiles_call set st c map).map ≡ map_length_of set st.session)
    × ((i : ℕ) → i < map_length_of set st.session → (get_or (tiles_call set st c map).map i 0 ≡ 0) ⊎ (get_or (tiles_call set st c map).map i 0 ≡ 1))

-- whatever is refused leaves the map as it was: settings out of their ranges, a map of another length, and all that a frame call refuses
pub record RefusalLeaves (set : Settings) (st : State) (c : Call) (map : List ℕ) : Type 0 where
  pub range : settings_fit set ≡ false → (tiles_call set st c map).map ≡ map
  pub length : map_fits set st.session map ≡ false → (tiles_call set st c map).map ≡ map
  pub packet : (k e : ℕ) → outcome_of st c ≡ refused k e → (tiles_call set st c map).map ≡ map

abbrev pub MapIsLeft : Type 0
MapIsLeft = (set : Settings) (st : State) (c : Call) (map : List ℕ) → RefusalLeaves set st c map
