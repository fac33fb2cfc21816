-- The shot call: what it answers, and what it leaves.
use Rattle.std.specs.Prelude.{ℕ, ◌≡◌, List, [], ◌∷◌, eqb}
use Rattle.bitstream.specs.Reading.{choose}
use Rattle.headers.specs.declared.Session.{Session}
use Rattle.ways.specs.Ways.{first_way}
use Rattle.work_memory.specs.Memory.{Memory}
use Rattle.asked_frame.specs.Answer.{Way}
use Rattle.calls.specs.Call.{by_rules}
use Rattle.packet_list.specs.Packets.{packets_in}
use Rattle.buffer_names.specs.declared.Names.{Names}
use Rattle.buffer_names.specs.Names.{names_of}
use Rattle.opening.specs.Call.{ShotCall, shot_number}
use Rattle.shot_packets.specs.Play.{Shot, shot, played, all_numbers}
use Rattle.shot.specs.declared.ShotAnswer.{ShotAnswer}
use Rattle.shot.specs.declared.ShotVerdict.TheVariants.{Played, Refused}

-- ---- what a call leaves
pub record ShotDone : Type 0 where
  pub answer : ShotAnswer
  pub planes : List (List ℕ)
  pub memory : Memory
  pub answers : List ℕ

abbrev pub shot_done : ShotAnswer → (first second third : List ℕ) → Memory → (answers : List ℕ) → ShotDone
shot_done a first second third memory answers = record { answer = a; planes = first ∷ second ∷ third ∷ []; memory = memory; answers = answers }

-- "without them the names are ignored"
abbrev pub start_of : ShotCall → Shot
start_of c = shot c.session c.planes (names_of c.session c.names) c.memory []

-- "the answer names the buffers of both"
abbrev pub played_by : Session → Names → ShotAnswer
played_by s n = record { verdict = Played; session = s; names = n }

abbrev pub ended : Shot → ShotDone
ended h = record {
  answer = played_by h.session h.names;
  planes = h.planes;
  memory = h.memory;
  answers = all_numbers h.answers;
}

abbrev pub refused_by : ℕ → Session → Names → ShotAnswer
refused_by k s n = record { verdict = Refused k; session = s; names = n }

-- "1, 8 and 16 of this call change nothing, work memory included"
abbrev pub unchanged : ℕ → ShotCall → ShotDone
unchanged k c = record { answer = refused_by k c.session c.names; planes = c.planes; memory = c.memory; answers = c.answers }

-- the shot, by a way to make frames: "The end planes, session and answers equal those of one call per packet". "An empty list changes nothing, work memory included"
unfoldable pub by_shot : Way → ShotCall → ShotDone
by_shot way c =
    choose (eqb (shot_number c) 0) (ended (played (by_rules way) c.table (start_of c) (packets_in c.lengths c.joined))) (unchanged (shot_number c) c)

-- what `shot::shot` promises
abbrev pub ShotPromise : ShotCall → ShotDone → Type 0
ShotPromise c d = d ≡ by_shot first_way c
