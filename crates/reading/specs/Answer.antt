-- What a packet asks for, and what is answered for it.
use Rattle.std.specs.Prelude.{ℕ, List, [], ◌∷◌, get_or}
use Rattle.bitstream.specs.Reading.{Outcome, got, refused, after, choose}
use Rattle.bitstream.specs.Numbers.{uncounted}
use Rattle.headers.specs.declared.Session.{Session}
use Rattle.headers.specs.Sizes.{format}
use Rattle.setup.specs.Header.{Setup}
use Rattle.setup.specs.Table.{held_setup}
use Rattle.frame_header.specs.declared.Header.{Header}
use Rattle.frame_header.specs.declared.Kind.{Kind}
use Rattle.frame_header.specs.declared.Kind.TheVariants.{Intra, Inter, Repeat}
use Rattle.frame_header.specs.Answer.{as_header, repeat_header}
use Rattle.frame_packet.specs.Frame.{Frame, frame_packet}
unfoldable pub use Rattle.session_steps.specs.Steps.{stays_counted, session_after}
use Rattle.reading.specs.declared.FrameAnswer.{FrameAnswer}
use Rattle.reading.specs.declared.Verdict.{Verdict}
use Rattle.reading.specs.declared.Verdict.TheVariants.{Accepted, Refused}

-- what an accepted packet asks for: what it says, and the setup
pub record Asked : Type 0 where
  pub setup : Setup
  pub frame : Frame

-- "past that the packet is refused as new number 17, after all other checks"
abbrev pub counted : Session → Setup → Frame → ℕ → Outcome Asked
counted s setup fr e = choose (stays_counted fr.header.kind s) (got (record { setup = setup; frame = fr }) e) (refused uncounted 0)

-- a packet by a setup
abbrev pub read_by : Session → Setup → (packet : List ℕ) → Outcome Asked
read_by s setup packet = after (frame_packet (format s) s.fields.fmbw s.fields.fmbh setup.trees s.references packet) (counted s setup)

-- "the rest of 8, then the packet"
unfoldable pub read : Session → (table packet : List ℕ) → Outcome Asked
read s table packet = after (held_setup table) (λ setup _. read_by s setup packet)

-- a refusal answers its number and "the bit place of the first bit of the field at fault": the header beside them says nothing, and the session is as it was.
-- "An accepted frame answers with its kind (intra, inter, repeat) and the qi list (empty for repeat)"; "the number of coefficient tokens read .. the count that the reading rules themselves give"
abbrev pub answer_for : Session → Outcome Asked → FrameAnswer
answer_for s (refused k e) = record { verdict = Refused k e; header = repeat_header; session = s }
answer_for s (got a e) = record { verdict = Accepted a.frame.body.tokens.tokens; header = as_header a.frame.header; session = session_after a.frame.header.kind s }

-- ---- an answer as numbers
-- "its kind (intra, inter, repeat)" as a number
abbrev pub kind_number : Kind → ℕ
kind_number Intra = 0
kind_number Inter = 1
kind_number Repeat = 2

-- 8 numbers: the number of the refusal (0 if there is none), its place, the kind, how many qi there are, three qi, of which the others are 0, and the number of tokens. After a refusal all but the first two are 0
unfoldable pub answer_numbers : Verdict → Header → List ℕ
answer_numbers (Accepted t) h = 0 ∷ 0 ∷ kind_number h.kind ∷ h.count ∷ get_or h.qis 0 0 ∷ get_or h.qis 1 0 ∷ get_or h.qis 2 0 ∷ t ∷ []
answer_numbers (Refused k e) h = k ∷ e ∷ 0 ∷ 0 ∷ 0 ∷ 0 ∷ 0 ∷ 0 ∷ []
