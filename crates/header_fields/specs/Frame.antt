-- The first groups of the identification header: the version, and the frame's size.
use Rattle.std.specs.Prelude.{ℕ, ◌-◌, ◌*◌}
use Rattle.bitstream.specs.Reading.{Outcome, got, refused, Parse, pure, field, ◌>>=◌}
use Rattle.bitstream.specs.Numbers.{other_version}
use Rattle.header_fields.specs.declared.FrameSize.{FrameSize}
use Rattle.header_fields.specs.declared.FrameSizeAnswer.{FrameSizeAnswer}
use Rattle.header_fields.specs.Tests.{exactly, positive, at_most}

-- "VMAJ 8, VMIN 8, VREV 8 (any)"; "VMAJ is not 3, or VMIN is not 2" is number 3
unfoldable pub version : Parse ℕ
version = do
  vmaj ← exactly 8 3 other_version
  vmin ← exactly 8 2 other_version
  field 8

-- "FMBW 16, FMBH 16 (both > 0), PICW 24 ≤ 16·FMBW, PICH 24 ≤ 16·FMBH, PICX 8 ≤ 16·FMBW−PICW, PICY 8 ≤ 16·FMBH−PICH"
unfoldable pub frame_size : Parse FrameSize
frame_size = do
  fmbw ← positive 16
  fmbh ← positive 16
  picw ← at_most 24 (16 * fmbw)
  pich ← at_most 24 (16 * fmbh)
  picx ← at_most 8 (16 * fmbw - picw)
  picy ← at_most 8 (16 * fmbh - pich)
  pure (record { fmbw = fmbw; fmbh = fmbh; picw = picw; pich = pich; picx = picx; picy = picy })

-- the answers
abbrev pub as_frame_size : Outcome FrameSize → FrameSizeAnswer
as_frame_size (got f e) = FrameSizeAnswer.Is f e
as_frame_size (refused k e) = FrameSizeAnswer.Refused k e
