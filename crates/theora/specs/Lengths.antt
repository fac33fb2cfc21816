-- The lengths of work memory for a session's frames, as an answer.
use Rattle.bitstream.specs.Reading.{choose}
use Rattle.headers.specs.declared.Session.{Session}
use Rattle.headers.specs.Fits.{session_fits}
use Rattle.work_memory.specs.Lengths.{lengths_of}
use Rattle.theora.specs.declared.WorkAnswer.{WorkAnswer}

-- "Size calls: identification part of 8"
unfoldable pub work_lengths : Session → WorkAnswer
work_lengths s = choose (session_fits s) (WorkAnswer.Is (lengths_of s)) (WorkAnswer.Refused 8)
