-- "Key frame numbers in the session": what the two numbers count, and when a packet is refused for them.
use Rattle.std.specs.Prelude.{ℕ, ◌+◌, ◌≡◌, true, List, [], ◌∷◌}
use Rattle.bitstream.specs.Reading.{got, refused}
use Rattle.bitstream.specs.Numbers.{uncounted}
use Rattle.headers.specs.declared.Session.{Session}
use Rattle.headers.specs.Fits.{session_fits}
use Rattle.headers.specs.Identification.{identification}
use Rattle.frame_header.specs.declared.Kind.{Kind}
use Rattle.frame_header.specs.declared.Kind.TheVariants.{Intra, Inter, Repeat}
use Rattle.reading.specs.declared.Verdict.{Verdict}
use Rattle.reading.specs.declared.Verdict.TheVariants.{Accepted, Refused}
use Rattle.reading.specs.Counted.{Uncounted}
use Rattle.asked_frame.specs.Answer.{Way, State}
use Rattle.calls.specs.Call.{Call, lengths_hold, outcome_of, by_rules}
use Rattle.calls.specs.Demand.{Turn, turns}

-- ---- counting
-- "accepted key frames": one more for an accepted intra frame
abbrev pub key_frame_after : Verdict → Kind → ℕ → ℕ
key_frame_after (Refused k e) kind n = n
key_frame_after (Accepted t) Intra n = n + 1
key_frame_after (Accepted t) Inter n = n
key_frame_after (Accepted t) Repeat n = n

-- "and accepted other packets since the last one": one more for another accepted packet, "A key frame sets the second to 0"
abbrev pub other_after : Verdict → Kind → ℕ → ℕ
other_after (Refused k e) kind n = n
other_after (Accepted t) Intra n = 0
other_after (Accepted t) Inter n = n + 1
other_after (Accepted t) Repeat n = n + 1

-- both over a list of turns, from the numbers that were there before
unfoldable pub key_frames : ℕ → List Turn → ℕ
key_frames n [] = n
key_frames n (t ∷ ts) = key_frames (key_frame_after t.done.answer.verdict t.done.answer.header.kind n) ts

unfoldable pub others_since : ℕ → List Turn → ℕ
others_since n [] = n
others_since n (t ∷ ts) = others_since (other_after t.done.answer.verdict t.done.answer.header.kind n) ts

-- the session behind a list of turns
unfoldable pub session_behind : Session → List Turn → Session
session_behind s [] = s
session_behind s (t ∷ ts) = session_behind t.after.session ts

-- "Both start at 0"
abbrev pub BothStart : Type 0
BothStart = (p : List ℕ) (s : Session) (e : ℕ) → identification p 0 ≡ got s e → (s.key_frames ≡ 0) × (s.others ≡ 0)

-- behind every list of calls, refused ones included, the session's numbers are these counts
abbrev pub NumbersCount : Type 0
NumbersCount = (way : Way) (st : State) (calls : List Call) → let ts = turns (by_rules way) st calls in let s = session_behind st.session ts in
    (s.key_frames ≡ key_frames st.session.key_frames ts) × (s.others ≡ others_since st.session.others ts)

-- and a session that fits stays one
abbrev pub SessionsFit : Type 0
SessionsFit = (way : Way) (st : State) (calls : List Call) → session_fits st.session ≡ true → session_fits (session_behind st.session (turns (by_rules way) st calls)) ≡ true

-- ---- 17 exactly where everything else passes, and a number would not stay
abbrev pub SeventeenExactly : Type 0
SeventeenExactly = (st : State) (c : Call)
    → ((session_fits st.session ≡ true) × (lengths_hold st c ≡ true) × Uncounted st.session c.table c.packet → outcome_of st c ≡ refused uncounted 0)
    × ((e : ℕ) → outcome_of st c ≡ refused uncounted e → (session_fits st.session ≡ true) × (lengths_hold st c ≡ true) × Uncounted st.session c.table c.packet)
