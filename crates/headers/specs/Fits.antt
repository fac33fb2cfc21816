-- Number 8's identification part: "the identification fields break 5, 6 or their widths".
use Rattle.std.specs.Prelude.{ℕ, ◌-◌, ◌*◌, ◌^◌, Bool, true, ◌&&◌, List, [], ◌∷◌, ltb}
use Rattle.headers.specs.declared.Fields.{Fields}
use Rattle.headers.specs.declared.Session.{Session}
use Rattle.header_fields.specs.Tests.{is_positive, is_at_most, is_format}

-- a value of n bits
abbrev pub within : ℕ → ℕ → Bool
within n v = ltb v (2 ^ n)

-- every test of a list holds
unfoldable pub all : List Bool → Bool
all [] = true
all (b ∷ bs) = b && all bs

-- the width of each field
unfoldable pub widths_fit : Fields → Bool
widths_fit f =
    all (within 8 f.vrev ∷ within 16 f.fmbw ∷ within 16 f.fmbh ∷ within 24 f.picw ∷ within 24 f.pich
    ∷ within 8 f.picx ∷ within 8 f.picy ∷ within 32 f.frn ∷ within 32 f.frd ∷ within 24 f.parn
    ∷ within 24 f.pard ∷ within 8 f.cs ∷ within 24 f.nombr ∷ within 6 f.qual ∷ within 5 f.kfgshift
    ∷ within 2 f.pf ∷ [])

-- "PICW 24 ≤ 16·FMBW", "PICX 8 ≤ 16·FMBW−PICW", and the same up
unfoldable pub picture_inside : ℕ → ℕ → ℕ → Bool
picture_inside frame size offset = is_at_most frame size && is_at_most (frame - size) offset

-- 5 and 6: the judgements of the identification header
unfoldable pub ranges_hold : Fields → Bool
ranges_hold f =
    all (is_positive f.fmbw ∷ is_positive f.fmbh ∷ picture_inside (16 * f.fmbw) f.picw f.picx
    ∷ picture_inside (16 * f.fmbh) f.pich f.picy ∷ is_positive f.frn ∷ is_positive f.frd ∷ is_format f.pf ∷ [])

-- "KFGSHIFT bounds the second: it must stay below 2 to the power KFGSHIFT"
unfoldable pub within_shift : Fields → ℕ → Bool
within_shift f n = ltb n (2 ^ f.kfgshift)

-- "the identification fields break 5, 6 or their widths", or the session's "second number breaks this": they do not
unfoldable pub session_fits : Session → Bool
session_fits s = widths_fit s.fields && (ranges_hold s.fields && within_shift s.fields s.others)
