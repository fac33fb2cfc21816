-- The size call: "Size calls: identification part of 8."
use Rattle.std.specs.Prelude.{ℕ, eqb}
use Rattle.bitstream.specs.Reading.{choose}
use Rattle.geometry.specs.declared.PixelFormat.{PixelFormat}
use Rattle.geometry.specs.Sizes.{sizes_of}
use Rattle.headers.specs.declared.Session.{Session}
use Rattle.headers.specs.declared.SizesAnswer.{SizesAnswer}
use Rattle.headers.specs.Fits.{session_fits}

-- "PF 0 is 4:2:0, 2 is 4:2:2 (half width), 3 is 4:4:4"
unfoldable pub format_of : ℕ → PixelFormat
format_of pf = choose (eqb pf 0) PixelFormat.Chroma420 (choose (eqb pf 2) PixelFormat.Chroma422 PixelFormat.Chroma444)

-- a session's pixel format
abbrev pub format : Session → PixelFormat
format s = format_of s.fields.pf

-- the sizes of a session's frames, or number 8
unfoldable pub session_sizes : Session → SizesAnswer
session_sizes s = choose (session_fits s) (SizesAnswer.Is (sizes_of (format s) s.fields.fmbw s.fields.fmbh)) (SizesAnswer.Refused 8)
