-- A packet that is refused by 17 alone.
use Rattle.std.specs.Prelude.{ℕ, ◌≡◌, false, List}
use Rattle.bitstream.specs.Reading.{got}
use Rattle.headers.specs.declared.Session.{Session}
use Rattle.headers.specs.Sizes.{format}
use Rattle.setup.specs.Header.{Setup}
use Rattle.setup.specs.Table.{held_setup}
use Rattle.frame_packet.specs.Frame.{Frame, frame_packet}
use Rattle.reading.specs.Answer.{stays_counted}

-- "after all other checks": table memory holds a setup and the packet is read to its end, but a number of the session would not stay within its bound
pub record Uncounted (s : Session) (table packet : List ℕ) : Type 0 where
  pub setup : Setup
  pub place : ℕ
  pub held : held_setup table ≡ got setup place
  pub frame : Frame
  pub end : ℕ
  pub reads : frame_packet (format s) s.fields.fmbw s.fields.fmbh setup.trees s.references packet ≡ got frame end
  pub passed : stays_counted frame.header.kind s ≡ false
