-- What is left to do with a packet that was read.
use Rattle.std.specs.Prelude.{Bool, true, false}
use Rattle.headers.specs.declared.Session.{Session}
use Rattle.frame_packet.specs.declared.FrameRead.{FrameRead}
use Rattle.packet_body.specs.declared.Read.{Read}
use Rattle.packet_body.specs.declared.Read.TheVariants.{Whole, Refused}
use Rattle.reading.specs.Answer.{stays_counted}
use Rattle.asked_frame.specs.declared.Next.{Next}
use Rattle.asked_frame.specs.declared.Next.TheVariants.{Nothing, Clear, Make}

-- by whether the session's numbers stay within their bounds
abbrev pub next_by : Bool → Read → Next
next_by b (Refused k e) = Nothing
next_by true (Whole n t e) = Make n
next_by false (Whole n t e) = Clear

abbrev pub next_of : Session → FrameRead → Next
next_of s r = next_by (stays_counted r.header.kind s) r.read
