-- Table memory, and the setup call.
use Rattle.std.specs.Prelude.{ℕ, List, Bool, true, false, eqb, length, replicate}
use Rattle.bitstream.specs.Reading.{Outcome, got, refused, choose}
use Rattle.bitstream.specs.Numbers.{wrong_length, not_genuine}
use Rattle.table_memory.specs.Kept.{kept}
use Rattle.table_memory.specs.Genuine.{Leaves, genuine}
use Rattle.setup.specs.Header.{Setup, setup_header}
use Rattle.setup.specs.declared.SetupAnswer.{SetupAnswer}
use Rattle.setup.specs.declared.SetupAnswer.TheVariants.{Accepted, Refused}

-- the published length of table memory, in bytes: law `setup-spends` says that no setup header needs more
abbrev pub table_bytes : ℕ
table_bytes = 28184

-- "Setup: 1, then the packet": the outcome of the call with a table memory of so many bytes
unfoldable pub setup_outcome : ℕ → List ℕ → Outcome Setup
setup_outcome room p = choose (eqb room table_bytes) (setup_header p 0) (refused wrong_length 0)

-- a refusal with "the bit place of the first bit of the field at fault"
abbrev pub as_setup_answer : Outcome Setup → SetupAnswer
as_setup_answer (got s e) = Accepted
as_setup_answer (refused k e) = Refused k e

-- what a packet leaves: the bits that were read, then zeros; "refused: all zero"
abbrev pub left_by : List ℕ → Outcome Setup → List ℕ
left_by p (got s e) = kept p e table_bytes
left_by p (refused k e) = replicate table_bytes 0

-- "Setup fixes all of table memory by its packet alone"; "by 1: untouched"
unfoldable pub table_after : List ℕ → List ℕ → List ℕ
table_after old p = choose (eqb (length old) table_bytes) (left_by p (setup_header p 0)) old

-- the test of number 8: the memory reads as a setup packet, and nothing but zeros stands behind it
abbrev pub is_table : List ℕ → Bool
is_table t = genuine setup_header table_bytes t

-- the same with no test in between: whether some accepted setup packet leaves this memory
abbrev pub LeftBySome : Bool → List ℕ → Type 0
LeftBySome true t = (p : List ℕ) × Leaves setup_header table_bytes p t
LeftBySome false t = ((p : List ℕ) × Leaves setup_header table_bytes p t) → ⊥

-- the setup that a table memory holds. "no accepted setup packet leaves this table memory" is number 8
unfoldable pub held_setup : List ℕ → Outcome Setup
held_setup t = choose (is_table t) (setup_header t 0) (refused not_genuine 0)
