-- The tests of what a call is lent, as the program comes to them: by the lengths alone.
use Rattle.std.specs.Prelude.{ℕ, ◌*◌, Bool, ◌&&◌, List, [], ◌∷◌, eqb, length}
use Rattle.bitstream.specs.Reading.{choose}
use Rattle.bitstream.specs.Numbers.{wrong_length, not_genuine}
use Rattle.headers.specs.declared.Session.{Session}
use Rattle.headers.specs.Fits.{session_fits, all}
use Rattle.setup.specs.Table.{table_bytes}
use Rattle.work_memory.specs.declared.WorkLengths.{WorkLengths}
use Rattle.work_memory.specs.Memory.{Memory}
use Rattle.work_memory.specs.Lengths.{blocks, lengths_of}
use Rattle.calls.specs.declared.Room.{Room}

-- the lengths of what a call may write to
abbrev pub room_of : Memory → (first second third : List ℕ) → Room
room_of m first second third = record {
  records = length m.work.records;
  coded = length m.work.coded;
  coefs = length m.work.coefs;
  dc = length m.dc;
  lasts = length m.work.lasts;
  flags = length m.work.flags;
  bits = length m.work.bits;
  supers = length m.work.supers;
  modes = length m.work.modes;
  active = length m.work.active;
  first = length first;
  second = length second;
  third = length third;
}

-- `buffersFit` and `lengthsFit`, by these lengths
unfoldable pub room_for_frames : (n table : ℕ) → Room → Bool
room_for_frames n table r = all (eqb r.first (64 * n) ∷ eqb r.second (64 * n) ∷ eqb r.third (64 * n) ∷ eqb table table_bytes ∷ [])

unfoldable pub room_for_work : WorkLengths → Room → Bool
room_for_work l r =
    all (eqb r.records l.records ∷ eqb r.coded l.coded ∷ eqb r.coefs l.coefs ∷ eqb r.dc l.dc ∷ eqb r.lasts l.lasts
    ∷ eqb r.flags l.flags ∷ eqb r.bits l.bits ∷ eqb r.supers l.supers ∷ eqb r.modes l.modes ∷ eqb r.active l.active ∷ [])

-- `lengthsHold`
abbrev pub room_fits : Session → (table : ℕ) → Room → Bool
room_fits s table r = room_for_frames (blocks s) table r && room_for_work (lengths_of s) r

-- `lentNumber`
unfoldable pub lent_by : Session → (table : ℕ) → Room → ℕ
lent_by s table r = choose (session_fits s) (choose (room_fits s table r) 0 wrong_length) not_genuine
