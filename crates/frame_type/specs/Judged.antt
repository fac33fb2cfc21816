-- The bits of a frame header that are judged.
use Rattle.std.specs.Prelude.{ℕ, Bool, true, eqb}
use Rattle.bitstream.specs.Reading.{Parse, pure, bind, pick, choose, judged, ◌>>=◌, ◌>>◌}
use Rattle.bitstream.specs.Numbers.{no_references, no_frame, reserved_bits}

-- a bit or bits that must be 0
abbrev pub is_zero : ℕ → Bool
is_zero v = eqb v 0

-- "type (0 intra)"; 9, "an inter or empty packet and no references", comes at the type bit
abbrev pub allowed : Bool → ℕ → Bool
allowed references t = choose (eqb t 0) true references

-- "Else bit 0; type": 10, "first bit of a frame packet is 1"
unfoldable pub frame_type : Bool → Parse ℕ
frame_type references = do
  judged 1 is_zero no_frame
  judged 1 (allowed references) no_references

-- "intra: 3 zero bits": 11, "intra frame's 3 reserved bits are not 0"
unfoldable pub reserved : ℕ → Parse ℕ
reserved t = pick (eqb t 0) (judged 3 is_zero reserved_bits) (pure 0)
