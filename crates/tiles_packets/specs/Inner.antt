-- What the loop promises: what `shot_packets` promises of its loop, and the maps.
use Rattle.std.specs.Prelude.{ℕ, ◌≡◌, List}
use Rattle.headers.specs.declared.Session.{Session}
use Rattle.settings.specs.declared.Settings.{Settings}
use Rattle.work_memory.specs.Memory.{Memory}
use Rattle.buffer_names.specs.declared.Names.{Names}
use Rattle.shot_packets.specs.Play.{Shot}
use Rattle.shot_packets.specs.Inner.{PlaysAll}
use Rattle.shot_maps.specs.Maps.{maps_after}

pub record PlaysMaps (set : Settings) (table : List ℕ) (start : Shot) (packets : List (List ℕ)) (maps : List ℕ) (s : Session) (planes : List (List ℕ)) (n : Names) (m : Memory) (numbers left : List ℕ) : Type 0 where
  pub plays : PlaysAll table start packets s planes n m numbers
  pub maps_are : left ≡ maps_after set table start packets maps
