-- The tests of a shot call, as the program comes to them: by the lengths of what is lent.
use Rattle.std.specs.Prelude.{ℕ, ◌*◌, Bool, eqb}
use Rattle.bitstream.specs.Reading.{choose}
use Rattle.bitstream.specs.Numbers.{wrong_length, not_genuine, past_packets}
use Rattle.bitstream.specs.declared.End.{End}
use Rattle.bitstream.specs.declared.End.TheVariants.{At, Refused}
use Rattle.headers.specs.declared.Session.{Session}
use Rattle.packet_list.specs.Packets.{answer_size}
use Rattle.buffer_names.specs.declared.Names.{Names}
use Rattle.buffer_names.specs.Names.{names_fit}
use Rattle.calls.specs.declared.Room.{Room}
use Rattle.calls.specs.Room.{lent_by}

-- `lentNumber`: the tests of a frame call, then the length of the answers, then the names
unfoldable pub shot_lent_by : Session → Names → (packets table : ℕ) → Room → (answers : ℕ) → ℕ
shot_lent_by s n packets table r answers =
    choose (eqb (lent_by s table r) 0) (choose (eqb answers (answer_size * packets)) (choose (names_fit s n) 0 not_genuine) wrong_length) (lent_by s table r)

-- and behind those: whether table memory holds a setup, by the place that its loader answers, then the reach
abbrev pub late_number : End → (reach : Bool) → ℕ
late_number (Refused k e) reach = not_genuine
late_number (At e) reach = choose reach 0 past_packets
