-- Lists of calls of `wedgepetal_frame`, beside the lists of calls that demand 3 speaks of.
use Rattle.std.specs.Prelude.{ℕ, ◌≡◌, List, [], ◌∷◌, map, length}
use Rattle.ways.specs.Ways.{first_way}
use Rattle.calls.specs.Call.{Call, by_rules}
use Rattle.calls.specs.Demand.{Turn, turns}
use Rattle.session_list.specs.List.{session_of}
use Rattle.frame_c.specs.Face.{state_of, done_returned, frame_call}

-- what a call brings: what the rules speak of, and the list for its answer
pub record FaceCall : Type 0 where
  pub rules : Call
  pub answer : List ℕ

-- every list for an answer has its 8 numbers
unfoldable pub AnswersFit : List FaceCall → Type 0
AnswersFit [] = Unit {0}
AnswersFit (c ∷ cs) = (length c.answer ≡ 8) × AnswersFit cs

-- each call gets the session's list as the call before left it, and golden and previous as the rules hand them on. It returns and leaves what the
-- turn left, and its list says the session that the turn hands on
unfoldable pub SameTurns : (session : List ℕ) → List FaceCall → List Turn → Type 0
SameTurns session [] [] = Unit {0}
SameTurns session [] (t ∷ ts) = ⊥
SameTurns session (c ∷ cs) [] = ⊥
SameTurns session (c ∷ cs) (t ∷ ts) =
    let r = frame_call session c.answer t.before.golden t.before.previous c.rules in
    (r ≡ done_returned session t.done) × (session_of r.answered.lent ≡ t.after.session) × SameTurns r.answered.lent cs ts

-- from any list of 19 numbers, golden and previous: the calls of the face are the turns of demand 3
abbrev pub FaceTurns : Type 0
FaceTurns = (session golden previous : List ℕ) → length session ≡ 19 → (cs : List FaceCall) → AnswersFit cs
    → SameTurns session cs (turns (by_rules first_way) (state_of session golden previous) (map (λ c. c.rules) cs))
