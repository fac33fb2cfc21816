-- The names of the buffers that hold golden and previous.
use Rattle.std.specs.Prelude.{ℕ, ◌<◌, ◌≡◌, Bool, true, false, not, ◌&&◌, eqb, ltb}
use Rattle.bitstream.specs.Reading.{choose}
use Rattle.headers.specs.declared.Session.{Session}
use Rattle.frame_header.specs.declared.Kind.{Kind}
use Rattle.frame_header.specs.declared.Kind.TheVariants.{Intra, Inter, Repeat}
use Rattle.reading.specs.declared.Verdict.{Verdict}
use Rattle.reading.specs.declared.Verdict.TheVariants.{Accepted, Refused}
use Rattle.buffer_names.specs.declared.Names.{Names}

abbrev pub names : (golden previous : ℕ) → Names
names golden previous = record { golden = golden; previous = previous }

-- "3 and 3 without references"; "without them the names are ignored"
abbrev pub names_of : Session → Names → Names
names_of s n = choose s.references n (names 3 3)

-- "The caller names both in the same way; with references another number is 8"
abbrev pub names_fit : Session → Names → Bool
names_fit s n = choose s.references (ltb n.golden 3 && ltb n.previous 3) true

-- buffer k holds neither golden nor previous
abbrev pub neither : Names → ℕ → Bool
neither n k = not (eqb n.golden k) && not (eqb n.previous k)

-- "each new frame goes into the first that holds neither golden nor previous"
unfoldable pub free : Names → ℕ
free n = choose (neither n 0) 0 (choose (neither n 1) 1 2)

-- the names after a call whose new frame is buffer k: as `handedOn` (theora) hands on what they hold
abbrev pub names_after : Names → (k : ℕ) → Verdict → Kind → Names
names_after n k (Refused j e) kind = n
names_after n k (Accepted t) Intra = names k k
names_after n k (Accepted t) Inter = names n.golden k
names_after n k (Accepted t) Repeat = names n.golden k

-- names as they stand from packet to packet: with references both are buffers, without them 3 and 3
pub record Sound (s : Session) (n : Names) : Type 0 where
  pub named : s.references ≡ true → (n.golden < 3) × (n.previous < 3)
  pub unnamed : s.references ≡ false → n ≡ names 3 3
