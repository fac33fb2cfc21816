-- Number 8 for table memory, through the setup call itself.
use Rattle.std.specs.Prelude.{ℕ, ◌≡◌, true, List, length}
use Rattle.bitstream.specs.Reading.{got, refused}
use Rattle.bitstream.specs.Numbers.{not_genuine}
use Rattle.headers.specs.Fits.{session_fits}
use Rattle.table_memory.specs.Genuine.{Bytes}
use Rattle.setup.specs.Header.{Setup}
use Rattle.setup.specs.Table.{setup_outcome, table_after}
use Rattle.reading.specs.Answer.{read_by}
use Rattle.asked_frame.specs.Answer.{State}
use Rattle.calls.specs.Call.{Call, lengths_hold, outcome_of}

-- a setup call with this packet and this memory is accepted, and leaves t
pub record SetupLeaves (packet old : List ℕ) (s : Setup) (t : List ℕ) : Type 0 where
  pub place : ℕ
  pub accepted : setup_outcome (length old) packet ≡ got s place
  pub leaves : table_after old packet ≡ t

-- some setup call, accepted, leaves t
abbrev pub LeftBySetup : List ℕ → Type 0
LeftBySetup t = (packet : List ℕ) × (old : List ℕ) × (s : Setup) × SetupLeaves packet old s t

-- "no accepted setup packet leaves this table memory": a frame call past its session and its lengths
pub record TableJudged (st : State) (c : Call) : Type 0 where
  -- is refused by 8 if none does
  pub none_left : (LeftBySetup c.table → ⊥) → outcome_of st c ≡ refused not_genuine 0
  -- and else reads its packet by what that setup packet said
  pub some_left : (packet old : List ℕ) (s : Setup) → SetupLeaves packet old s c.table → outcome_of st c ≡ read_by st.session s c.packet

-- of every frame call; table memory is bytes
abbrev pub TablesJudged : Type 0
TablesJudged = (st : State) (c : Call) → session_fits st.session ≡ true → lengths_hold st c ≡ true → Bytes c.table → TableJudged st c
