-- What the code answers.
use Rattle.std.specs.Prelude.{ℕ, ◌-◌, List, [], ◌++◌, length, replicate}
use Rattle.bitstream.specs.Reading.{Outcome, got, refused}
use Rattle.bitstream.specs.declared.End.TheVariants.{Refused, At}
use Rattle.frame_header.specs.declared.Kind.TheVariants.{Repeat}
use Rattle.frame_header.specs.declared.Header.{Header}
use Rattle.frame_header.specs.declared.HeaderRead.{HeaderRead}
use Rattle.frame_header.specs.declared.QisRead.{QisRead}
use Rattle.frame_header.specs.Header.{FrameHeader}

-- "Struct by value with kind, an array of three qi and their number": the others are 0
abbrev pub three : List ℕ → List ℕ
three qis = qis ++ replicate (3 - length qis) 0

abbrev pub as_header : FrameHeader → Header
as_header h = record { kind = h.kind; qis = three h.qis; count = length h.qis }

-- the header of a repeat: "the qi list (empty for repeat)"
abbrev pub repeat_header : Header
repeat_header = as_header (record { kind = Repeat; qis = [] })

-- the qi that were read, or the refusal
abbrev pub as_qis : Outcome (List ℕ) → QisRead
as_qis (got qis e) = record { done = At e; qis = three qis; count = length qis }
as_qis (refused k e) = record { done = Refused k e; qis = three []; count = 0 }

-- a header that was read, or the refusal
abbrev pub as_read : Outcome FrameHeader → HeaderRead
as_read (got h e) = record { done = At e; header = as_header h }
as_read (refused k e) = record { done = Refused k e; header = repeat_header }
