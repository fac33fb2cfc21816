-- Packets that are applied in order, one frame call each.
use Rattle.std.specs.Prelude.{ℕ, List, [], ◌∷◌, ◌++◌, get_or, set}
use Rattle.headers.specs.declared.Session.{Session}
use Rattle.work_memory.specs.Memory.{Memory}
use Rattle.reading.specs.declared.FrameAnswer.{FrameAnswer}
use Rattle.reading.specs.Answer.{answer_numbers}
use Rattle.asked_frame.specs.Answer.{State, Done, state}
use Rattle.calls.specs.Call.{Call, call}
use Rattle.buffer_names.specs.declared.Names.{Names}
use Rattle.buffer_names.specs.Names.{free, names_after}
use Rattle.frame_into.specs.Buffers.{buffer_of}

-- a shot so far: the session, three buffers and the names of two, work memory, and the answers of its packets
pub record Shot : Type 0 where
  pub session : Session
  pub planes : List (List ℕ)
  pub names : Names
  pub memory : Memory
  pub answers : List FrameAnswer

abbrev pub shot : Session → List (List ℕ) → Names → Memory → List FrameAnswer → Shot
shot s planes names memory answers = record { session = s; planes = planes; names = names; memory = memory; answers = answers }

-- the frame call of a packet
abbrev pub state_of : Shot → State
state_of h = state h.session (buffer_of h.planes h.names.golden) (buffer_of h.planes h.names.previous)

abbrev pub call_of : (table : List ℕ) → Shot → (packet : List ℕ) → Call
call_of table h packet = call packet table h.memory (get_or h.planes (free h.names) [])

-- what a call leaves of the shot
abbrev pub after : Shot → Done → Shot
after h d =
    let k = free h.names in
    shot d.answer.session (set h.planes k d.new) (names_after h.names k d.answer.verdict d.answer.header.kind) d.memory (h.answers ++ (d.answer ∷ []))

-- one packet: a frame call, done as `does` says
unfoldable pub one_more : (State → Call → Done) → (table : List ℕ) → Shot → (packet : List ℕ) → Shot
one_more does table h packet = after h (does (state_of h) (call_of table h packet))

-- "apply them in order"
unfoldable pub played : (State → Call → Done) → (table : List ℕ) → Shot → List (List ℕ) → Shot
played does table h [] = h
played does table h (p ∷ ps) = played does table (one_more does table h p) ps

abbrev pub numbers_of : FrameAnswer → List ℕ
numbers_of a = answer_numbers a.verdict a.header

unfoldable pub all_numbers : List FrameAnswer → List ℕ
all_numbers [] = []
all_numbers (a ∷ rest) = numbers_of a ++ all_numbers rest
