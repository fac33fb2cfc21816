-- The tests of what a call is lent, as the program comes to them. Assumes nothing.
use Prim.Native.Nat.{ℕ}
use mathlib.Core.Path.{◌≡◌, sym, ap, ◌∙◌}
use mathlib.Core.Bool.{Bool, true, false, ◌&&◌}
use mathlib.Core.List.{List}
use lib.ListN.{length}
use Rattle.headers.specs.declared.Session.{Session}
use Rattle.headers.specs.Fits.{session_fits}
use Rattle.work_memory.specs.declared.WorkLengths.{WorkLengths}
use Rattle.work_memory.specs.Memory.{Memory}
use Rattle.work_memory.specs.Lengths.{lengths_of, lengths_fit}
use Rattle.asked_frame.specs.Answer.{state}
use Rattle.calls.specs.declared.Room.{Room}
use Rattle.calls.specs.Lengths.{buffers_fit}
use Rattle.calls.specs.Call.{call, lent_number}
use Rattle.calls.specs.Room.{room_of, room_for_frames, room_for_work, room_fits, lent_by}

module _ (s : Session) (table : ℕ) (r : Room) where
  pub by_8 : session_fits s ≡ false → 8 ≡ lent_by s table r
  unfolding lent_by
  by_8 h = sym (rw h)

  module _ (fits : session_fits s ≡ true) {l : WorkLengths} {x y : Bool} (el : l ≡ lengths_of s) (ex : x ≡ room_for_frames l.records table r) (ey : y ≡ room_for_work l r) where
    room_is : {v : Bool} → (x && y) ≡ v → room_fits s table r ≡ v
    room_is h = (λ i. room_for_frames (sym el i).records table r && room_for_work (sym el i) r) ∙ (λ i. sym ex i && sym ey i) ∙ h

    pub by_1 : (x && y) ≡ false → 1 ≡ lent_by s table r
    unfolding lent_by
    by_1 h = sym (rw (fits, room_is h))

    pub by_0 : (x && y) ≡ true → 0 ≡ lent_by s table r
    unfolding lent_by
    by_0 h = sym (rw (fits, room_is h))

-- the same by what is lent, whatever the packet
pub lent_is : (s : Session) (golden previous new packet table : List ℕ) (m : Memory) {r : Room} → r ≡ room_of m golden previous new
    → {k : ℕ} → k ≡ lent_by s (length table) r → k ≡ lent_number (state s golden previous) (call packet table m new)
unfolding lent_by lent_number buffers_fit lengths_fit room_for_frames room_for_work
lent_is s golden previous new packet table m e h = h ∙ ap (λ (r : Room). lent_by s (length table) r) e
