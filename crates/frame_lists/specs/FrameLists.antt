-- What the answer of a frame leaves in the lists of the session and of the answer.
use Rattle.std.specs.Prelude.{ℕ, List, get_or, set}
use Rattle.headers.specs.declared.Session.{Session}
use Rattle.session_list.specs.List.{Answered, answers}
use Rattle.frame_header.specs.declared.Header.{Header}
use Rattle.frame_header.specs.declared.Kind.{Kind}
use Rattle.frame_header.specs.declared.Kind.TheVariants.{Intra, Inter, Repeat}
use Rattle.reading.specs.declared.Verdict.{Verdict}
use Rattle.reading.specs.Answer.{answer_numbers}

-- an intra frame sets the reference flag, other packets leave it: the flag's number, from what it was
abbrev pub reference_number : Kind → ℕ → ℕ
reference_number Intra old = 1
reference_number Inter old = old
reference_number Repeat old = old

-- the session's list after an accepted packet of a kind, which leaves the session s
abbrev pub session_numbers : Kind → Session → List ℕ → List ℕ
session_numbers kind s session = set (set (set session 16 (reference_number kind (get_or session 16 0))) 17 s.key_frames) 18 s.others

-- the numbers of the answer, also of a refusal; the session with its flag and its two numbers set anew, or as it was
abbrev pub verdict_returned : (session : List ℕ) → Header → Session → Verdict → Answered
verdict_returned session h s (Verdict.Accepted t) = answers 0 (session_numbers h.kind s session) (answer_numbers (Verdict.Accepted t) h)
verdict_returned session h s (Verdict.Refused k e) = answers k session (answer_numbers (Verdict.Refused k e) h)
