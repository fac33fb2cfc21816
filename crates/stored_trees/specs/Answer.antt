-- What the code answers, as outcomes of the reading algebra.
use Rattle.std.specs.Prelude.{ℕ}
use Rattle.bitstream.specs.Reading.{Outcome, got, refused}
use Rattle.huffman.specs.Tree.{Tree, leaves}

-- how many leaves a tree has that was read; 0 where none was
abbrev pub leaves_of : Outcome Tree → ℕ
leaves_of (got t e) = leaves t
leaves_of (refused k e) = 0
