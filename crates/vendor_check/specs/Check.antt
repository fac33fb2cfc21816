-- "Check the vendor's decoder": what a check is lent, what it answers, and what it leaves.
use Rattle.std.specs.Prelude.{ℕ, ◌≡◌, false, List, [], ◌∷◌, map, eqb, length}
use Rattle.bitstream.specs.Reading.{Outcome, got, refused, choose}
use Rattle.headers.specs.declared.Session.{Session}
use Rattle.headers.specs.Identification.{identification}
use Rattle.setup.specs.Header.{Setup}
use Rattle.setup.specs.Table.{setup_outcome, table_after}
use Rattle.ways.specs.Ways.{first_way}
use Rattle.work_memory.specs.Memory.{Memory}
use Rattle.reading.specs.declared.FrameAnswer.{FrameAnswer}
use Rattle.reading.specs.declared.Verdict.{Verdict}
use Rattle.reading.specs.declared.Verdict.TheVariants as verdict
use Rattle.calls.specs.Call.{by_rules}
use Rattle.calls.specs.Demand.{Turn, turns}
use Rattle.packet_list.specs.Packets.{packets_in}
use Rattle.text.specs.Same.{same}
use Rattle.stream_numbers.specs.Numbers.{numbers_of}
use Rattle.y4m.specs.Stream.{header_text}
use Rattle.buffer_names.specs.Names.{names}
use Rattle.shot_packets.specs.Play.{state_of}
use Rattle.opening.specs.Call.{ShotCall, shot_number}
use Rattle.shot.specs.Call.{start_of, by_shot}
use Rattle.shot_claims.specs.Claims.{calls_of, answer_of}
use Rattle.film.specs.Film.{film_of}
use Rattle.stream_check.specs.Compared.{difference, onward, beginning}
use Rattle.watching.specs.declared.Watched.{Watched}
use Rattle.check_answer.specs.declared.CheckAnswer.{CheckAnswer}
use Rattle.check_answer.specs.declared.CheckAnswer.TheVariants.{Passes, Differs, Refused}

-- ---- the answer
-- "It passes the file exactly if .. the file is what Ask 1 would write .. Otherwise it names the first differing byte"
abbrev pub compared : (want file : List ℕ) → CheckAnswer
compared want file = choose (same want file) Passes (Differs (difference want file))

-- "The first refusal, .. of a packet, is reported by its own number and place, and wins over any difference"
abbrev pub refused_or : Verdict → CheckAnswer → CheckAnswer
refused_or (verdict.Refused k e) r = Refused k e
refused_or (verdict.Accepted t) r = r

unfoldable pub first_refused : List FrameAnswer → CheckAnswer → CheckAnswer
first_refused [] r = r
first_refused (a ∷ rest) r = refused_or a.verdict (first_refused rest r)

-- the frame calls of a shot
abbrev pub turns_of : ShotCall → List Turn
turns_of c = turns (by_rules first_way) (state_of (start_of c)) (calls_of (by_rules first_way) c.table (start_of c) (packets_in c.lengths c.joined))

-- request 6's own refusals first: 1 and 16
unfoldable pub checked_shot : ShotCall → (file : List ℕ) → CheckAnswer
checked_shot c file = choose (eqb (shot_number c) 0) (first_refused (map answer_of (turns_of c)) (compared (film_of c.session (turns_of c)) file)) (Refused (shot_number c) 0)

-- ---- what is left: "planes, memory and answers are lent, checked and left as in Ask 6"
pub record CheckDone : Type 0 where
  pub answer : CheckAnswer
  pub planes : List (List ℕ)
  pub memory : Memory
  pub answers : List ℕ

abbrev pub check_done : CheckAnswer → (first second third : List ℕ) → Memory → (answers : List ℕ) → CheckDone
check_done r first second third memory answers = record { answer = r; planes = first ∷ second ∷ third ∷ []; memory = memory; answers = answers }

unfoldable pub check_of : ShotCall → (file : List ℕ) → CheckDone
check_of c file = let d = by_shot first_way c in record { answer = checked_shot c file; planes = d.planes; memory = d.memory; answers = d.answers }

abbrev pub ShotChecked : ShotCall → (file : List ℕ) → CheckDone → Type 0
ShotChecked c file d = d ≡ check_of c file

-- ---- the call
pub record Lent : Type 0 where
  pub lengths : List ℕ
  pub joined : List ℕ
  pub table : List ℕ
  pub memory : Memory
  pub planes : List (List ℕ)
  pub answers : List ℕ

abbrev pub lent : (lengths joined table : List ℕ) → Memory → (first second third answers : List ℕ) → Lent
lent lengths joined table memory first second third answers = record {
  lengths = lengths;
  joined = joined;
  table = table;
  memory = memory;
  planes = first ∷ second ∷ third ∷ [];
  answers = answers;
}

-- "from the fresh session": it has no references, and no name matters
abbrev pub fresh : Session → (table : List ℕ) → Lent → ShotCall
fresh s table l = record { session = s; names = names 3 3; lengths = l.lengths; joined = l.joined; table = table; memory = l.memory; planes = l.planes; answers = l.answers }

-- table memory beside all else
pub record CheckLeft : Type 0 where
  pub table : List ℕ
  pub done : CheckDone

abbrev pub check_left : CheckAnswer → (table first second third : List ℕ) → Memory → (answers : List ℕ) → CheckLeft
check_left r table first second third memory answers = record { table = table; done = check_done r first second third memory answers }

-- a header's refusal: all that request 6 would use is as it was
abbrev pub unplayed : ℕ → ℕ → (table : List ℕ) → Lent → CheckLeft
unplayed k e table l = record { table = table; done = record { answer = Refused k e; planes = l.planes; memory = l.memory; answers = l.answers } }

-- the setup header, which leaves table memory, then the shot
abbrev pub by_setup : Session → Outcome Setup → (table file : List ℕ) → Lent → CheckLeft
by_setup s (refused k e) table file l = unplayed k e table l
by_setup s (got u e) table file l = record { table = table; done = check_of (fresh s table l) file }

-- the identification header first: refused, nothing is touched
abbrev pub by_session : Outcome Session → (setup file : List ℕ) → Lent → CheckLeft
by_session (refused k e) setup file l = unplayed k e l.table l
by_session (got s e) setup file l = by_setup s (setup_outcome (length l.table) setup) (table_after l.table setup) file l

unfoldable pub checked : (identification setup file : List ℕ) → Lent → CheckLeft
checked header setup file l = by_session (identification header 0) setup file l

-- ---- the same, as the program comes to it
-- the header's line is compared
abbrev pub begun_by : Session → (file : List ℕ) → Watched
begun_by s file = record { compared = onward beginning (header_text (numbers_of s)) file; refused = false; number = 0; bit = 0 }
