-- Demand 3: a single claim about a list of frame calls.
use Rattle.std.specs.Prelude.{ℕ, ◌<◌, ◌≡◌, false, List, [], ◌∷◌, ◌≢◌, get_or}
use Rattle.bitstream.specs.Reading.{got}
use Rattle.geometry.specs.declared.Block.{Block}
use Rattle.geometry.specs.Frame.{InFrame}
use Rattle.geometry.specs.Sample.{sample_at}
use Rattle.headers.specs.declared.Session.{Session}
use Rattle.headers.specs.Identification.{identification}
use Rattle.frame_header.specs.declared.Kind.{Kind}
use Rattle.frame_header.specs.declared.Kind.TheVariants.{Intra, Inter, Repeat}
use Rattle.ways.specs.Loops.{◌∈◌}
use Rattle.ways.specs.Ways.{first_way, second_way, AlongCoded}
use Rattle.reading.specs.declared.Verdict.{Verdict}
use Rattle.reading.specs.declared.Verdict.TheVariants.{Accepted, Refused}
use Rattle.headers.specs.Sizes.{format}
use Rattle.reading.specs.Answer.{Asked}
use Rattle.asked_frame.specs.Answer.{State, Done, state, picture}
use Rattle.calls.specs.Call.{Call, outcome_of, by_rules, FramePromise}

-- "After an accepted intra frame new becomes golden and previous, after another accepted packet previous; after a refusal all stay"
abbrev pub handed_on : State → Verdict → Kind → Session → List ℕ → State
handed_on st (Refused k e) kind s new = record { session = s; golden = st.golden; previous = st.previous }
handed_on st (Accepted t) Intra s new = record { session = s; golden = new; previous = new }
handed_on st (Accepted t) Inter s new = record { session = s; golden = st.golden; previous = new }
handed_on st (Accepted t) Repeat s new = record { session = s; golden = st.golden; previous = new }

-- one call of a list: what it got, what it brought, what it left, and what is handed on
pub record Turn : Type 0 where
  pub before : State
  pub call : Call
  pub done : Done
  pub after : State

abbrev pub turn : State → Call → Done → Turn
turn st c d = record { before = st; call = c; done = d; after = handed_on st d.answer.verdict d.answer.header.kind d.answer.session d.new }

-- all calls of a list, each done as `does` says
unfoldable pub turns : (State → Call → Done) → State → List Call → List Turn
turns does st [] = []
turns does st (c ∷ cs) = let t = turn st c (does st c) in t ∷ turns does t.after cs

-- turns in which each call keeps a promise, and gets what the one before handed on
unfoldable pub Ran : (State → Call → Done → Type 0) → State → List Call → List Turn → Type 0
Ran Promise st [] [] = Unit {0}
Ran Promise st [] (t ∷ ts) = ⊥
Ran Promise st (c ∷ cs) [] = ⊥
Ran Promise st (c ∷ cs) (t ∷ ts) = (t ≡ turn st c t.done) × Promise st c t.done × Ran Promise t.after cs ts

-- at an accepted call a sample of an uncoded block differs from the previous frame only if it lies in that block's outermost row or column
-- along an edge shared with a coded block of the same plane. "The previous frame is previous as lent to the call"
unfoldable pub UncodedKept : Turn → Type 0
UncodedKept t =
    let st = t.before in
    let s = st.session in
    (a : Asked) (e : ℕ) → outcome_of st t.call ≡ got a e
    → let pic = picture s a st.golden st.previous in
    (b : Block) (c r : ℕ) → InFrame (format s) s.fields.fmbw s.fields.fmbh b → c < 8 → r < 8 → pic.coded b ≡ false
    → let at = sample_at (format s) s.fields.fmbw s.fields.fmbh b c r in
    get_or t.done.new at 0 ≢ get_or st.previous at 0 → AlongCoded (format s) s.fields.fmbw s.fields.fmbh pic b c r

-- of one list of calls. A turn holds the answer, and session, golden, previous and new after the call
pub record Demand3 (start : State) (calls : List Call) : Type 0 where
  -- frame calls that are run one after the other are, to the byte, what 'go over all blocks' gives
  pub frame_agrees : (ran : List Turn) → Ran FramePromise start calls ran → ran ≡ turns (by_rules first_way) start calls
  -- and what 'start from previous, redo only coded blocks and filtered edges' gives
  pub ways_agree : turns (by_rules first_way) start calls ≡ turns (by_rules second_way) start calls
  -- at every accepted call an uncoded block changes only along a coded one
  pub uncoded_kept : (t : Turn) → t ∈ turns (by_rules first_way) start calls → UncodedKept t

-- demand 3, "For every list of frame calls from a fresh session": as an accepted identification header gives it. "At first golden and previous are any"
abbrev pub Demand3Holds : Type 0
Demand3Holds = (header : List ℕ) (s : Session) (e : ℕ) → identification header 0 ≡ got s e → (golden previous : List ℕ) (calls : List Call) → Demand3 (state s golden previous) calls
