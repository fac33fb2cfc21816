-- What every header begins with.
use Rattle.std.specs.Prelude.{ℕ, List, [], ◌∷◌}
use Rattle.bitstream.specs.Reading.{Parse, pure, ◌>>◌}
use Rattle.bitstream.specs.Numbers.{other_header}
pub use Rattle.header_fields.specs.Tests.{exactly}

-- "a header's type byte or "theora" is not the wanted one" is number 2: bytes that must stand there, each a field of its own
unfoldable pub spelled : List ℕ → Parse (Unit {0})
spelled [] = pure tt
spelled (b ∷ bs) = exactly 8 b other_header >> spelled bs

-- "theora" in ASCII
abbrev pub theora : List ℕ
theora = 0x74 ∷ 0x68 ∷ 0x65 ∷ 0x6F ∷ 0x72 ∷ 0x61 ∷ []

-- what every header begins with: its type byte, and "theora"
unfoldable pub common_header : ℕ → Parse (Unit {0})
common_header mark = spelled (mark ∷ theora)
