-- The identification header, field by field.
use Rattle.std.specs.Prelude.{ℕ, false}
use Rattle.bitstream.specs.Reading.{Outcome, got, refused, Parse, pure, ◌>>=◌, ◌>>◌}
use Rattle.headers.specs.declared.Session.{Session}
use Rattle.header_fields.specs.declared.FrameSize.{FrameSize}
use Rattle.header_groups.specs.declared.Rates.{Rates}
use Rattle.header_groups.specs.declared.Coding.{Coding}
use Rattle.headers.specs.declared.IdentificationAnswer.{IdentificationAnswer}
use Rattle.header_groups.specs.Judgement.{common_header}
use Rattle.header_fields.specs.Frame.{version, frame_size}
unfoldable pub use Rattle.header_groups.specs.Groups.{rates, coding}

-- "The session record holds the identification fields and whether references exist (at first not)"
abbrev pub fresh_session : ℕ → FrameSize → Rates → Coding → Session
fresh_session vrev f r c = record {
  fields = record {
    vrev = vrev;
    fmbw = f.fmbw;
    fmbh = f.fmbh;
    picw = f.picw;
    pich = f.pich;
    picx = f.picx;
    picy = f.picy;
    frn = r.frn;
    frd = r.frd;
    parn = r.parn;
    pard = r.pard;
    cs = r.cs;
    nombr = c.nombr;
    qual = c.qual;
    kfgshift = c.kfgshift;
    pf = c.pf;
  };
  references = false;
  key_frames = 0;
  others = 0;
}

-- "byte 80 hex, "theora"", and the fields in turn
unfoldable pub identification : Parse Session
identification = do
  common_header 0x80
  v ← version
  f ← frame_size
  r ← rates
  c ← coding
  pure (fresh_session v f r c)

-- "the bit place of the first bit of the field at fault" beside the number; "Later bytes are ignored"
abbrev pub as_identification : Outcome Session → IdentificationAnswer
as_identification (got s e) = IdentificationAnswer.Accepted s
as_identification (refused k e) = IdentificationAnswer.Refused k e
