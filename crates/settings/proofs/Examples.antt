-- Worked examples, by computation.
use Prim.Native.Nat.{ℕ}
use mathlib.Core.Path.{◌≡◌, refl}
use mathlib.Core.List.{List, [], ◌∷◌, ◌++◌}
use lib.ListN.{length}
use Rattle.output.specs.Output.{Output}
use Rattle.text.specs.Decimal.{decimal, trimmed, digits, scan}
use Rattle.text.specs.Same.{same}
use Rattle.settings.specs.declared.Settings.{Settings}
use Rattle.settings.specs.Settings.{settings_fit, holds, version_key, tile_key, first_key, last_key, plane_key, lines_then, text_of, said_in, is_text_of, is, refused, begins_version2, read, settings_text}

-- tile 8, shots 0 to 9
abbrev small : ℕ → Settings
small plane = record { tile = 8; shot_first = 0; shot_last = 9; plane = plane }

-- `version=1`, `tile=8`, `shot_first=0`, `shot_last=9`, each with a line feed
abbrev small_text : List ℕ
small_text =
    118 ∷ 101 ∷ 114 ∷ 115 ∷ 105 ∷ 111 ∷ 110 ∷ 61 ∷ 49 ∷ 10 ∷ 116 ∷ 105 ∷ 108 ∷ 101 ∷ 61 ∷ 56 ∷ 10
    ∷ 115 ∷ 104 ∷ 111 ∷ 116 ∷ 95 ∷ 102 ∷ 105 ∷ 114 ∷ 115 ∷ 116 ∷ 61 ∷ 48 ∷ 10 ∷ 115 ∷ 104 ∷ 111 ∷ 116 ∷ 95 ∷ 108 ∷ 97 ∷ 115 ∷ 116 ∷ 61 ∷ 57 ∷ 10 ∷ []

version_1 : text_of 1 (small 0) ≡ small_text
unfolding text_of lines_then decimal trimmed digits
version_1 = refl

-- the same as version 2, with plane 2
version_2 : text_of 2 (small 2) ≡ version_key ++ 50 ∷ 10 ∷ tile_key ++ 56 ∷ 10 ∷ first_key ++ 48 ∷ 10 ∷ last_key ++ 57 ∷ 10 ∷ plane_key ++ 50 ∷ 10 ∷ []
unfolding text_of lines_then decimal trimmed digits
version_2 = refl

-- both readers take the version 1 text
read_there : read 1 small_text ≡ is (small 0)
unfolding read begins_version2 is_text_of settings_fit said_in text_of lines_then same scan decimal trimmed digits
read_there = refl

read_old : read 2 small_text ≡ is (small 0)
unfolding read is_text_of settings_fit said_in text_of lines_then same scan decimal trimmed digits
read_old = refl

-- `version=2` and a line feed alone: 19 for the one reader, 20 for the other
line_alone_1 : read 1 (version_key ++ 50 ∷ 10 ∷ []) ≡ refused 19
unfolding read begins_version2 same decimal trimmed digits
line_alone_1 = refl

line_alone_2 : read 2 (version_key ++ 50 ∷ 10 ∷ []) ≡ refused 20
unfolding read is_text_of settings_fit said_in scan
line_alone_2 = refl

-- `version=20` and a line feed: 20
twenty : read 1 (version_key ++ 50 ∷ 48 ∷ 10 ∷ []) ≡ refused 20
unfolding read begins_version2 is_text_of settings_fit said_in same scan decimal trimmed digits
twenty = refl

-- `tile=08`, and a missing last line feed: 20
leading_zero : read 1 (version_key ++ 49 ∷ 10 ∷ tile_key ++ 48 ∷ 56 ∷ 10 ∷ first_key ++ 48 ∷ 10 ∷ last_key ++ 57 ∷ 10 ∷ []) ≡ refused 20
unfolding read begins_version2 is_text_of settings_fit said_in text_of lines_then same scan decimal trimmed digits
leading_zero = refl

no_line_feed : read 1 (version_key ++ 49 ∷ 10 ∷ tile_key ++ 56 ∷ 10 ∷ first_key ++ 48 ∷ 10 ∷ last_key ++ 57 ∷ []) ≡ refused 20
unfolding read begins_version2 is_text_of settings_fit said_in text_of lines_then same scan decimal trimmed digits
no_line_feed = refl

-- shot_last 999,999 is in range, and the text of all widest values has 61 bytes; shot_first 10 with shot_last 9 is not, and is 20 before 14
widest : length (text_of 2 (record { tile = 32; shot_first = 999999; shot_last = 999999; plane = 2 })) ≡ 61
unfolding text_of lines_then decimal trimmed digits
widest = refl

not_in_order : settings_text 1 (record { tile = 8; shot_first = 10; shot_last = 9; plane = 0 }) 0 ≡ Output.refused 20
unfolding settings_text settings_fit holds
not_in_order = refl

too_short : settings_text 1 (small 0) 41 ≡ Output.refused 14
unfolding settings_text settings_fit holds text_of lines_then decimal trimmed digits
too_short = refl
