-- What a recording adds to the report.
use Rattle.std.specs.Prelude.{ℕ, List, [], ◌∷◌, eqb, ltb, length, get_or, drop}
use Rattle.bitstream.specs.Reading.{Outcome, got, refused, after, choose}
use Rattle.bitstream.specs.Numbers.{packet_ends}
use Rattle.headers.specs.declared.Session.{Session}
use Rattle.headers.specs.Identification.{identification}
use Rattle.setup.specs.Table.{setup_outcome, table_after}
use Rattle.work_memory.specs.Memory.{Memory}
use Rattle.reading.specs.declared.FrameAnswer.{FrameAnswer}
use Rattle.reading.specs.declared.Verdict.{Verdict}
use Rattle.reading.specs.declared.Verdict.TheVariants.{Accepted, Refused}
use Rattle.reading.specs.Answer.{Asked, answer_for, kind_number}
use Rattle.asked_frame.specs.Answer.{state}
use Rattle.calls.specs.Call.{call, outcome_of}
use Rattle.counting.specs.declared.Counts.{Counts}
use Rattle.tally.specs.Counted.{counts_of}
use Rattle.report.specs.Report.{plus, nothing, refusal_adds, frame_adds}

-- "Planes, table and work memory are scratch here"
pub record Lent : Type 0 where
  pub table : List ℕ
  pub memory : Memory
  pub golden : List ℕ
  pub previous : List ℕ
  pub new : List ℕ

abbrev pub lent : (table : List ℕ) → Memory → (golden previous new : List ℕ) → Lent
lent table memory golden previous new = record { table = table; memory = memory; golden = golden; previous = previous; new = new }

-- a packet, as a frame call answers it that is lent the same, with this table memory
abbrev pub outcome_lent : Lent → (table : List ℕ) → Session → (packet : List ℕ) → Outcome Asked
outcome_lent l table s packet = outcome_of (state s l.golden l.previous) (call packet table l.memory l.new)

-- what an answer and its counts add: "packets by kind, refusals by number (1 too), coded and uncoded blocks by plane, macro blocks by mode"
abbrev pub counts_add : (kind : ℕ) → Counts → List ℕ
counts_add kind c = frame_adds kind c.coded c.uncoded c.modes

abbrev pub verdict_adds : Verdict → (kind : ℕ) → Counts → List ℕ
verdict_adds (Refused k e) kind c = refusal_adds k 1
verdict_adds (Accepted t) kind c = counts_add kind c

abbrev pub answer_adds : FrameAnswer → Counts → List ℕ
answer_adds a c = verdict_adds a.verdict (kind_number a.header.kind) c

abbrev pub packet_adds : Session → Outcome Asked → List ℕ
packet_adds s o = answer_adds (answer_for s o) (counts_of s o)

-- "Nothing is sampled": every packet, each by the session that the one before leaves
unfoldable pub packets_add : (says : Session → List ℕ → Outcome Asked) → Session → List (List ℕ) → List ℕ
packets_add says s [] = nothing
packets_add says s (p ∷ ps) = plus (packet_adds s (says s p)) (packets_add says (answer_for s (says s p)).session ps)

-- "Three headers come first, the comment one skipped": the setup header is the third packet; "a missing one as 4"
unfoldable pub setup_of : (room : ℕ) → List (List ℕ) → Session → Outcome Session
setup_of room packets s = choose (ltb (length packets) 3) (refused packet_ends 0) (after (setup_outcome room (get_or packets 2 [])) (λ _ _. got s 0))

-- the fresh session, where both headers are sound
unfoldable pub headers_of : (room : ℕ) → List (List ℕ) → Outcome Session
headers_of room packets = choose (eqb (length packets) 0) (refused packet_ends 0) (after (identification (get_or packets 0 []) 0) (λ s _. setup_of room packets s))

-- "the first refused header is counted by its number .. and no more of that recording is read"
abbrev pub adds_by : Lent → List (List ℕ) → Outcome Session → List ℕ
adds_by l packets (refused k e) = refusal_adds k 1
adds_by l packets (got s e) = packets_add (outcome_lent l (table_after l.table (get_or packets 2 []))) s (drop 3 packets)

unfoldable pub recording_adds : Lent → List (List ℕ) → List ℕ
recording_adds l packets = adds_by l packets (headers_of (length l.table) packets)
