-- What the functions of the loop ask and promise.
use Rattle.std.specs.Prelude.{ℕ, ◌≡◌, List}
use Rattle.bitstream.specs.Reading.{got}
use Rattle.setup.specs.Header.{Setup}
use Rattle.setup.specs.Table.{held_setup}
use Rattle.setup.specs.Loaded.{loaded_setup}
use Rattle.setup.specs.declared.LoadedSetup.{LoadedSetup}
use Rattle.headers.specs.declared.Session.{Session}
use Rattle.ways.specs.Ways.{first_way}
use Rattle.work_memory.specs.Memory.{Memory}
use Rattle.reading.specs.declared.FrameAnswer.{FrameAnswer}
use Rattle.calls.specs.Call.{by_rules}
use Rattle.buffer_names.specs.declared.Names.{Names}
use Rattle.shot_packets.specs.Play.{Shot, shot, played, all_numbers}

-- table memory is genuine, and this is the setup that it holds
pub record TableLoaded (table : List ℕ) (loaded : LoadedSetup) : Type 0 where
  pub setup : Setup
  pub end : ℕ
  pub held : held_setup table ≡ got setup end
  pub is : loaded ≡ loaded_setup setup

-- what is left, with the numbers of the packets' answers, is what playing the packets gives
pub record PlaysAll (table : List ℕ) (start : Shot) (packets : List (List ℕ)) (s : Session) (planes : List (List ℕ)) (n : Names) (m : Memory) (numbers : List ℕ) : Type 0 where
  pub answers : List FrameAnswer
  pub ended : shot s planes n m answers ≡ played (by_rules first_way) table start packets
  pub stored : numbers ≡ all_numbers answers
