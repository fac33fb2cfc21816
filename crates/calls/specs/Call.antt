-- A frame call: what it is lent, what it answers, and what it leaves.
use Rattle.std.specs.Prelude.{ℕ, ◌≡◌, Bool, ◌&&◌, List}
use Rattle.bitstream.specs.Reading.{Outcome, refused, choose}
use Rattle.bitstream.specs.Numbers.{wrong_length, not_genuine}
use Rattle.headers.specs.Fits.{session_fits}
use Rattle.ways.specs.Ways.{first_way}
use Rattle.work_memory.specs.Memory.{Memory}
use Rattle.work_memory.specs.Lengths.{blocks, lengths_of, lengths_fit, cleared}
use Rattle.reading.specs.Answer.{Asked, read, answer_for}
use Rattle.asked_frame.specs.Answer.{State, Done, Way, done, new_by}
use Rattle.calls.specs.Lengths.{buffers_fit}

-- what a call brings
pub record Call : Type 0 where
  pub packet : List ℕ
  pub table : List ℕ
  pub memory : Memory
  pub new : List ℕ

abbrev pub call : (packet table : List ℕ) → Memory → (new : List ℕ) → Call
call packet table memory new = record { packet = packet; table = table; memory = memory; new = new }

-- ---- when a call is refused
-- every lent length is the published one
abbrev pub lengths_hold : State → Call → Bool
lengths_hold st c = buffers_fit (blocks st.session) st.golden st.previous c.new c.table && lengths_fit (lengths_of st.session) c.memory

-- the tests before table memory is looked at, "Frame: that" (the identification part of 8), "then 1": the number of the refusal, or 0
unfoldable pub lent_number : State → Call → ℕ
lent_number st c = choose (session_fits st.session) (choose (lengths_hold st c) 0 wrong_length) not_genuine

-- "Frame: that" (the identification part of 8), "then 1, the rest of 8, then the packet"
unfoldable pub outcome_of : State → Call → Outcome Asked
outcome_of st c =
    choose (session_fits st.session)
    (choose (lengths_hold st c) (read st.session c.table c.packet) (refused wrong_length 0))
    (refused not_genuine 0)

-- ---- what a call leaves
-- both tests before table memory is looked at
abbrev pub past_lengths : State → Call → Bool
past_lengths st c = session_fits st.session && lengths_hold st c

-- "Work memory is all zero after every frame call past its length check, else untouched"
unfoldable pub memory_after : State → Call → Memory
memory_after st c = choose (past_lengths st c) (cleared (lengths_of st.session)) c.memory

-- a frame call by a way
unfoldable pub by_rules : Way → State → Call → Done
by_rules way st c = done (answer_for st.session (outcome_of st c)) (new_by way st c.new (outcome_of st c)) (memory_after st c)

-- what `theora::frame` promises: the answer, new and work memory are, to the byte, what going over all blocks gives
abbrev pub FramePromise : State → Call → Done → Type 0
FramePromise st c d = d ≡ by_rules first_way st c
