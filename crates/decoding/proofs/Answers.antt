-- What a call leaves for a packet, by a table memory. Assumes nothing.
use Prim.Native.Nat.{ℕ}
use mathlib.Core.Path.{◌≡◌}
use mathlib.Core.List.{List}
use Rattle.bitstream.specs.Reading.{got, refused}
use Rattle.headers.specs.declared.Session.{Session}
use Rattle.setup.specs.Header.{Setup}
use Rattle.setup.specs.Table.{held_setup}
use Rattle.ways.specs.Ways.{first_way}
use Rattle.reading.specs.declared.FrameAnswer.{FrameAnswer}
use Rattle.work_memory.specs.Memory.{Memory}
use Rattle.work_memory.specs.Lengths.{lengths_of, cleared}
use Rattle.reading.specs.Answer.{read_by, read, answer_for}
use Rattle.asked_frame.specs.Answer.{Done, state, done, decoded}

-- ---- a packet by table memory
module _ (s : Session) (golden previous packet table new : List ℕ) where
  pub decoded_8 : held_setup table ≡ refused 8 0 → (a : FrameAnswer) → a ≡ answer_for s (refused 8 0) → (m : Memory) → m ≡ cleared (lengths_of s)
      → done a new m ≡ decoded first_way (state s golden previous) new (read s table packet)
  unfolding read
  decoded_8 h a ea m em = rw h (λ i. done (ea i) new (em i))

  pub decoded_by : {setup : Setup} {e : ℕ} → held_setup table ≡ got setup e → (d : Done) → d ≡ decoded first_way (state s golden previous) new (read_by s setup packet)
      → d ≡ decoded first_way (state s golden previous) new (read s table packet)
  unfolding read
  decoded_by h d e = rw h e
