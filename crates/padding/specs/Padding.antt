-- "Padding from the old recorder": bytes behind a packet that is accepted, or refused by another number than 4, change nothing.
use Rattle.std.specs.Prelude.{ℕ, ◌≤◌, ◌≡◌, List, [], ◌∷◌, ◌++◌, map, length}
use Rattle.bitstream.specs.Reading.{Outcome, got, refused}
use Rattle.headers.specs.Identification.{identification}
use Rattle.setup.specs.Table.{setup_outcome, table_after}
use Rattle.asked_frame.specs.Answer.{State, Done, Way}
use Rattle.calls.specs.Call.{Call, call, outcome_of, by_rules, FramePromise}
use Rattle.calls.specs.Demand.{Turn, turns}

-- accepted, or refused by a number other than 4: "Nothing is promised for refusal 4"
abbrev pub Settled : {A : Type 0} → Outcome A → Type 0
Settled (got a e) = Unit {0}
Settled (refused k e) = k ≡ 4 → ⊥

-- a call with bytes behind its packet
abbrev pub with_more : List ℕ → Call → Call
with_more more c = call (c.packet ++ more) c.table c.memory c.new

-- a call of which padding is promised to change nothing: "every packet with at least one byte"
abbrev pub SettledCall : State → Call → Type 0
SettledCall st c = (1 ≤ length c.packet) × Settled (outcome_of st c)

-- "if it is accepted, then with any bytes after it the answer, planes, tables and session are the same. If it is refused by a number other than 4, .. the same number and place"
pub record Padding (more : List ℕ) : Type 0 where
  pub of_identification : (p : List ℕ) → Settled (identification p 0) → identification (p ++ more) 0 ≡ identification p 0
  -- the outcome, and all of table memory
  pub of_setup : (p table : List ℕ) → Settled (setup_outcome (length table) p)
      → (setup_outcome (length table) (p ++ more) ≡ setup_outcome (length table) p) × (table_after table (p ++ more) ≡ table_after table p)
  -- the answer with the session, new and work memory; by either way to make a frame
  pub of_frame : (way : Way) (st : State) (c : Call) → SettledCall st c → by_rules way st (with_more more c) ≡ by_rules way st c
  -- the same of two frame calls that keep what `theora::frame` promises
  pub of_runs : (st : State) (c : Call) (d padded : Done) → SettledCall st c → FramePromise st c d → FramePromise st (with_more more c) padded → padded ≡ d

-- ---- lists of calls
-- the packets of a list, each with bytes of its own behind it, or with none
unfoldable pub padded_by : List (List ℕ) → List Call → List Call
padded_by [] cs = cs
padded_by (more ∷ rest) [] = []
padded_by (more ∷ rest) (c ∷ cs) = with_more more c ∷ padded_by rest cs

-- no call of a list is empty or refused by 4
unfoldable pub AllSettled : List Turn → Type 0
AllSettled [] = Unit {0}
AllSettled (t ∷ ts) = SettledCall t.before t.call × AllSettled ts

-- what a turn left and handed on
pub record Left : Type 0 where
  pub done : Done
  pub after : State

abbrev pub left_in : Turn → Left
left_in t = record { done = t.done; after = t.after }

-- a curator's recording is a list: padding any packets of it changes no turn
abbrev pub ListsPadded : Type 0
ListsPadded = (way : Way) (st : State) (cs : List Call) (mores : List (List ℕ)) → AllSettled (turns (by_rules way) st cs)
    → map left_in (turns (by_rules way) st (padded_by mores cs)) ≡ map left_in (turns (by_rules way) st cs)

abbrev pub PaddingHolds : Type 0
PaddingHolds = ((more : List ℕ) → Padding more) × ListsPadded
