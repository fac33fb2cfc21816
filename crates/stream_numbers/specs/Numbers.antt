-- the numbers of a YUV4MPEG2 header
use Rattle.std.specs.Prelude.{ℕ, ◌*◌, eqb}
use Rattle.bitstream.specs.Reading.{choose}
use Rattle.headers.specs.declared.Session.{Session}
use Rattle.stream_numbers.specs.declared.Numbers.{Numbers}

-- "if either aspect number is 0, write `A0:0`"
unfoldable pub aspect : ℕ → ℕ → ℕ
aspect this other = choose (eqb other 0) 0 this

-- "numbers as in the session, not reduced"; the whole coded frame
unfoldable pub numbers_of : Session → Numbers
numbers_of s = record {
  width = 16 * s.fields.fmbw;
  height = 16 * s.fields.fmbh;
  frn = s.fields.frn;
  frd = s.fields.frd;
  parn = aspect s.fields.parn s.fields.pard;
  pard = aspect s.fields.pard s.fields.parn;
  pf = s.fields.pf;
}
