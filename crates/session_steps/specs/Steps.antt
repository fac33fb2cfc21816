-- The session after a packet of a kind, and the bounds of its two numbers.
use Rattle.std.specs.Prelude.{◌+◌, ◌^◌, Bool, true, ltb}
use Rattle.headers.specs.declared.Session.{Session}
use Rattle.headers.specs.Fits.{within_shift}
use Rattle.frame_header.specs.declared.Kind.{Kind}
use Rattle.frame_header.specs.declared.Kind.TheVariants.{Intra, Inter, Repeat}

-- "The first has 64 bits"; "KFGSHIFT bounds the second": whether the numbers stay within them after a packet of a kind
unfoldable pub stays_counted : Kind → Session → Bool
stays_counted Intra s = ltb (s.key_frames + 1) (2 ^ 64)
stays_counted Inter s = within_shift s.fields (s.others + 1)
stays_counted Repeat s = within_shift s.fields (s.others + 1)

-- an intra frame sets the reference flag; "accepted key frames, and accepted other packets since the last one"; "An empty packet counts as other. A key frame sets the second to 0"
unfoldable pub session_after : Kind → Session → Session
session_after Intra s = record { fields = s.fields; references = true; key_frames = s.key_frames + 1; others = 0 }
session_after Inter s = record { fields = s.fields; references = s.references; key_frames = s.key_frames; others = s.others + 1 }
session_after Repeat s = record { fields = s.fields; references = s.references; key_frames = s.key_frames; others = s.others + 1 }
