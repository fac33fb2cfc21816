-- The census call: what it is lent, what it answers, and what it leaves.
use Rattle.std.specs.Prelude.{ℕ, ◌≡◌, Bool, List, eqb, leb, pos, length, replicate}
use Rattle.bitstream.specs.Reading.{choose, got}
use Rattle.bitstream.specs.Numbers.{wrong_length, past_packets}
use Rattle.setup.specs.Header.{Setup}
use Rattle.setup.specs.Table.{held_setup}
use Rattle.setup.specs.Loaded.{loaded_setup}
use Rattle.setup.specs.declared.LoadedSetup.{LoadedSetup}
use Rattle.work_memory.specs.Memory.{Memory, memory}
use Rattle.packet_list.specs.Packets.{packets_in, total}
use Rattle.report.specs.Report.{report_size, plus}
use Rattle.report.specs.Running.{sum_number, report_after}
use Rattle.census_packets.specs.Recording.{Lent, lent, recording_adds}
use Rattle.report.specs.declared.CensusAnswer.{CensusAnswer}
use Rattle.report.specs.declared.CensusAnswer.TheVariants.{Counted, Refused}

-- ---- what a call brings: "a list of packet lengths and one buffer of packets joined together", the report, and scratch
pub record CensusCall : Type 0 where
  pub lengths : List ℕ
  pub joined : List ℕ
  pub report : List ℕ
  pub lent : Lent

abbrev pub census_call : (lengths joined report : List ℕ) → Lent → CensusCall
census_call lengths joined report l = record { lengths = lengths; joined = joined; report = report; lent = l }

-- "Lengths reaching past the buffer's end are new number 16, found first": over whole numbers
abbrev pub reaches : CensusCall → Bool
reaches c = leb (total c.lengths) (length c.joined)

-- ---- the report
-- a report of another length is 1; "a sum past 64 bits is new number 15". 0 where the recording is counted
unfoldable pub count_number : Lent → (packets : List (List ℕ)) → (report : List ℕ) → ℕ
count_number l packets report = choose (eqb (length report) report_size) (sum_number (plus report (recording_adds l packets))) wrong_length

-- "one call adds to a lent report"; every refusal "leaves the report as it was"
unfoldable pub count_report : Lent → (packets : List (List ℕ)) → (report : List ℕ) → List ℕ
count_report l packets report = choose (eqb (length report) report_size) (report_after (plus report (recording_adds l packets)) report) report

-- ---- scratch
-- work memory, "all zero after the call", whatever its lengths
unfoldable pub zeroed : Memory → Memory
zeroed m =
    let w = m.work in
    memory (replicate (length w.records) 0) (replicate (length w.coded) 0) (replicate (length w.coefs) (pos 0)) (replicate (length m.dc) (pos 0))
    (replicate (length w.lasts) 0) (replicate (length w.flags) 0) (replicate (length w.bits) 0) (replicate (length w.supers) 0)
    (replicate (length w.modes) 0) (replicate (length w.active) 0)

-- "Planes, table and work memory are scratch here: all zero after the call, after 15 too"
unfoldable pub all_zero : Lent → Lent
all_zero l =
    lent (replicate (length l.table) 0) (zeroed l.memory) (replicate (length l.golden) 0) (replicate (length l.previous) 0) (replicate (length l.new) 0)

-- ---- what a call leaves
pub record CensusDone : Type 0 where
  pub answer : CensusAnswer
  pub report : List ℕ
  pub lent : Lent

abbrev pub census_done : CensusAnswer → (report : List ℕ) → Lent → CensusDone
census_done a report l = record { answer = a; report = report; lent = l }

-- a call by its number; every refusal of it has place 0
abbrev pub answer_by : ℕ → CensusAnswer
answer_by k = choose (eqb k 0) Counted (Refused k 0)

-- a recording whose packets lie in the buffer
abbrev pub counting : CensusCall → CensusDone
counting c =
    let packets = packets_in c.lengths c.joined in
    census_done (answer_by (count_number c.lent packets c.report)) (count_report c.lent packets c.report) (all_zero c.lent)

-- "found first, and nothing changes"
unfoldable pub by_census : CensusCall → CensusDone
by_census c = choose (reaches c) (counting c) (census_done (Refused past_packets 0) c.report c.lent)

-- what `census::census` promises
abbrev pub CensusPromise : CensusCall → CensusDone → Type 0
CensusPromise c d = d ≡ by_census c

-- ---- inside
-- table memory holds some setup
abbrev pub Loads : List ℕ → Type 0
Loads table = (s : Setup) × (e : ℕ) × (held_setup table ≡ got s e)

-- and this is the setup
abbrev pub Loaded : List ℕ → LoadedSetup → Type 0
Loaded table l = (s : Setup) × (e : ℕ) × (held_setup table ≡ got s e) × (l ≡ loaded_setup s)
