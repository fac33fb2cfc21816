-- "The scoring scripts keep their settings as key=value lines in a fixed order."
use Rattle.std.specs.Prelude.{ℕ, Bool, ◌&&◌, ◌||◌, List, [], ◌∷◌, ◌++◌, eqb, leb, length, take, drop}
use Rattle.bitstream.specs.Reading.{choose}
use Rattle.bitstream.specs.Numbers.{later_version, bad_settings}
use Rattle.output.specs.Output.{Output, within}
use Rattle.text.specs.Decimal.{Scanned, decimal, number}
use Rattle.text.specs.Same.{same}
use Rattle.settings.specs.declared.Settings.{Settings}
use Rattle.settings.specs.declared.Found.{Found}
use Rattle.settings.specs.declared.Found.TheVariants.{Is, Not}
use Rattle.settings.specs.declared.Loaded.{Loaded}
use Rattle.settings.specs.declared.Verdict.TheVariants.{Accepted, Refused}

-- "Tile is 8, 16 or 32; shot_last is 0 to 999,999 and shot_first 0 to that"; plane "0 to 2"
unfoldable pub settings_fit : Settings → Bool
settings_fit s = (eqb s.tile 8 || eqb s.tile 16 || eqb s.tile 32) && (leb s.shot_last 999999 && (leb s.shot_first s.shot_last && leb s.plane 2))

-- the versions that can hold it: "plane 1 or 2 as version 1, or a third version" cannot
unfoldable pub holds : ℕ → Settings → Bool
holds version s = (eqb version 1 && eqb s.plane 0) || eqb version 2

-- `version=`, `tile=`, `shot_first=`, `shot_last=`, `plane=`
abbrev pub version_key : List ℕ
version_key = 118 ∷ 101 ∷ 114 ∷ 115 ∷ 105 ∷ 111 ∷ 110 ∷ 61 ∷ []

abbrev pub tile_key : List ℕ
tile_key = 116 ∷ 105 ∷ 108 ∷ 101 ∷ 61 ∷ []

abbrev pub first_key : List ℕ
first_key = 115 ∷ 104 ∷ 111 ∷ 116 ∷ 95 ∷ 102 ∷ 105 ∷ 114 ∷ 115 ∷ 116 ∷ 61 ∷ []

abbrev pub last_key : List ℕ
last_key = 115 ∷ 104 ∷ 111 ∷ 116 ∷ 95 ∷ 108 ∷ 97 ∷ 115 ∷ 116 ∷ 61 ∷ []

abbrev pub plane_key : List ℕ
plane_key = 112 ∷ 108 ∷ 97 ∷ 110 ∷ 101 ∷ 61 ∷ []

-- a line, "each with a line feed", and what stands behind it
abbrev pub line : List ℕ → ℕ → List ℕ → List ℕ
line key n t = key ++ (decimal n ++ (10 ∷ t))

-- "Version 2 adds a last line"
abbrev pub last_line : ℕ → Settings → List ℕ
last_line version s = choose (eqb version 2) (line plane_key s.plane []) []

-- the lines that both versions have, and what stands behind them
unfoldable pub lines_then : ℕ → Settings → List ℕ → List ℕ
lines_then version s t = line version_key version (line tile_key s.tile (line first_key s.shot_first (line last_key s.shot_last t)))

abbrev pub first_lines : ℕ → Settings → List ℕ
first_lines version s = lines_then version s []

-- the one text of a value in a version
unfoldable pub text_of : ℕ → Settings → List ℕ
text_of version s = lines_then version s (last_line version s)

-- ---- reading
-- the number of a line that begins with `key`, and what stands behind the line
abbrev pub on_line : List ℕ → List ℕ → Scanned
on_line key t = number (drop (length key) t)

abbrev pub behind : Scanned → List ℕ
behind n = drop 1 n.rest

-- what the lines of a text say, if it is one of that version
unfoldable pub said_in : ℕ → List ℕ → Settings
said_in version t =
    let v = on_line version_key t in
    let tile = on_line tile_key (behind v) in
    let first = on_line first_key (behind tile) in
    let last = on_line last_key (behind first) in
    let plane = on_line plane_key (behind last) in
    record { tile = tile.value; shot_first = first.value; shot_last = last.value; plane = choose (eqb version 2) plane.value 0 }

-- a text of a version: what it says is in range, and has this text
unfoldable pub is_text_of : ℕ → Settings → List ℕ → Bool
is_text_of version s t = settings_fit s && same t (text_of version s)

abbrev pub is_text : ℕ → List ℕ → Bool
is_text version t = is_text_of version (said_in version t) t

-- what a reader finds: settings, or the number of a refusal
pub data Outcome : Type 0 where
  is : Settings → Outcome
  refused : ℕ → Outcome

abbrev pub text_found : ℕ → List ℕ → Outcome
text_found version t = choose (is_text version t) (is (said_in version t)) (refused bad_settings)

-- "every text that begins with the line `version=2`"
unfoldable pub begins_version2 : List ℕ → Bool
begins_version2 t = same (take 10 t) (line version_key 2 [])

-- "its reader takes version 1 texts too, as plane 0"; "A reader for version 1 refuses .. by new number 19; any other fault is 20"
unfoldable pub read : ℕ → List ℕ → Outcome
read version t =
    choose (eqb version 1) (choose (begins_version2 t) (refused later_version) (text_found 1 t))
    (choose (eqb version 2) (choose (is_text 1 t) (is (said_in 1 t)) (text_found 2 t)) (refused bad_settings))

-- what the code finds, and "leave the settings in use as they were": they come back as they went in
abbrev pub as_found : Outcome → Found
as_found (is s) = Is s
as_found (refused k) = Not k

abbrev pub as_loaded : Settings → Outcome → Loaded
as_loaded old (is s) = record { verdict = Accepted; settings = s }
as_loaded old (refused k) = record { verdict = Refused k 0; settings = old }

-- ---- writing
-- "values out of range, plane 1 or 2 as version 1, or a third version" are 20, then 14
unfoldable pub settings_text : ℕ → Settings → ℕ → Output
settings_text version s room = choose (settings_fit s && holds version s) (within room (text_of version s)) (Output.refused bad_settings)
