-- What is handed on from frame to frame.
use Rattle.std.specs.Prelude.{◌≡◌, ℕ, List}
use Rattle.headers.specs.declared.Session.{Session}
use Rattle.frame_header.specs.declared.Kind.{Kind}
use Rattle.reading.specs.declared.Verdict.TheVariants.{Accepted}
use Rattle.asked_frame.specs.Answer.{state}
use Rattle.calls.specs.Demand.{handed_on}

-- after an accepted frame of a kind: golden and previous become what the rules hand on, whatever the session and the number of tokens
abbrev pub HandsOn : Kind → (golden previous new goldenAfter previousAfter : List ℕ) → Type 0
HandsOn kind golden previous new goldenAfter previousAfter =
    (s : Session) (tokens : ℕ) → state s goldenAfter previousAfter ≡ handed_on (state s golden previous) (Accepted tokens) kind s new
