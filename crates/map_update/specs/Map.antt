-- The length of a map, and the map after a packet.
use Rattle.std.specs.Prelude.{ℕ, ◌*◌, ◌≡◌, true, List, length, replicate}
use Rattle.bitstream.specs.Reading.{choose}
use Rattle.headers.specs.declared.Session.{Session}
use Rattle.headers.specs.Fits.{session_fits}
use Rattle.headers.specs.Sizes.{format}
use Rattle.settings.specs.declared.Settings.{Settings}
use Rattle.work_memory.specs.Lengths.{blocks}
use Rattle.reading.specs.declared.Verdict.{Verdict}
use Rattle.reading.specs.declared.Verdict.TheVariants.{Accepted, Refused}
use Rattle.tile_map.specs.Tiles.{map_length, tile_map}

-- ---- the length of a map
-- "one byte per tile"
abbrev pub map_length_of : Settings → Session → ℕ
map_length_of set s = map_length (format s) s.fields.fmbw s.fields.fmbh set.plane set.tile

-- ---- the map after a packet
-- "An intra frame accepted without references gives all 1"
unfoldable pub accepted_map : Settings → Session → (previous new : List ℕ) → List ℕ
accepted_map set s previous new =
    choose s.references
    (tile_map (format s) s.fields.fmbw s.fields.fmbh set.plane set.tile previous new)
    (replicate (map_length_of set s) 1)

-- "A refused packet leaves the map as it was"
abbrev pub map_after : Settings → Session → Verdict → (previous new map : List ℕ) → List ℕ
map_after set s (Refused k e) previous new map = map
map_after set s (Accepted n) previous new map = accepted_map set s previous new

-- ---- what the functions between ask for
-- every length is the published one
abbrev pub Lent : Settings → Session → (previous new map : List ℕ) → Type 0
Lent set s previous new map = (session_fits s ≡ true) × (length previous ≡ 64 * blocks s) × (length new ≡ 64 * blocks s) × (length map ≡ map_length_of set s)

abbrev pub IfAccepted : Verdict → Type 0 → Type 0
IfAccepted (Accepted n) P = P
IfAccepted (Refused k e) P = Unit
