-- Packets that are applied in order while a file is compared with their frames.
use Rattle.std.specs.Prelude.{ℕ, ◌≡◌, List, [], ◌∷◌}
use Rattle.headers.specs.declared.Session.{Session}
use Rattle.ways.specs.Ways.{first_way}
use Rattle.work_memory.specs.Memory.{Memory}
use Rattle.asked_frame.specs.Answer.{State, Done}
use Rattle.calls.specs.Call.{Call, by_rules}
use Rattle.buffer_names.specs.declared.Names.{Names}
use Rattle.stream_numbers.specs.declared.Numbers.{Numbers}
use Rattle.stream_numbers.specs.Numbers.{numbers_of}
use Rattle.shot_packets.specs.Play.{Shot, state_of, call_of, after}
use Rattle.shot_packets.specs.Inner.{PlaysAll}
use Rattle.watching.specs.declared.Watched.{Watched}
use Rattle.watching.specs.Watch.{watched}

-- the packets of a shot, one after the other
unfoldable pub watched_all : (State → Call → Done) → Numbers → (file table : List ℕ) → Watched → Shot → List (List ℕ) → Watched
watched_all does n file table w h [] = w
watched_all does n file table w h (p ∷ ps) =
    let d = does (state_of h) (call_of table h p) in
    watched_all does n file table (watched n file w d.answer.verdict d.new) (after h d) ps

-- all are played, and this was seen
pub record ChecksAll (table file : List ℕ) (begun : Watched) (start : Shot) (packets : List (List ℕ)) (seen : Watched) (planes : List (List ℕ)) (m : Memory) (numbers : List ℕ) : Type 0 where
  pub session : Session
  pub names : Names
  pub plays : PlaysAll table start packets session planes names m numbers
  pub sees : seen ≡ watched_all (by_rules first_way) (numbers_of start.session) file table begun start packets
