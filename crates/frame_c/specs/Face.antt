-- The frame call for C: what it returns and leaves.
use Rattle.std.specs.Prelude.{ℕ, List, eqb, length}
use Rattle.bitstream.specs.Reading.{choose}
use Rattle.session_list.specs.List.{Answered, answers, session_of, lists_number}
use Rattle.ways.specs.Ways.{first_way}
use Rattle.work_memory.specs.Memory.{Memory}
use Rattle.asked_frame.specs.Answer.{State, Done, state}
use Rattle.calls.specs.Call.{Call, by_rules}
use Rattle.frame_lists.specs.FrameLists.{verdict_returned}

-- the same, and all else that is lent to be written: new and work memory
pub record FrameReturned : Type 0 where
  pub answered : Answered
  pub new : List ℕ
  pub memory : Memory

abbrev pub frame_gives : Answered → (new : List ℕ) → Memory → FrameReturned
frame_gives a new memory = record { answered = a; new = new; memory = memory }

-- the state of a call: the session that its list says, golden and previous
abbrev pub state_of : (session golden previous : List ℕ) → State
state_of session golden previous = state (session_of session) golden previous

-- what the rules leave, as a frame call returns it
abbrev pub done_returned : (session : List ℕ) → Done → FrameReturned
done_returned session d = frame_gives (verdict_returned session d.answer.header d.answer.session d.answer.verdict) d.new d.memory

-- a frame call: the lists of the session and of the answer, then the rules
unfoldable pub frame_call : (session old golden previous : List ℕ) → Call → FrameReturned
frame_call session old golden previous c =
    let k = lists_number 8 session (length old) in
    choose (eqb k 0)
    (done_returned session (by_rules first_way (state_of session golden previous) c))
    (frame_gives (answers k session old) c.new c.memory)
