-- The orders of a session's blocks and macro blocks, and where its samples lie.
use Rattle.std.specs.Prelude.{ℕ, Bool, ◌&&◌, ltb, eqb}
use Rattle.geometry.specs.declared.PixelFormat.{PixelFormat}
use Rattle.geometry.specs.declared.Block.{Block}
use Rattle.geometry.specs.declared.Place.{Place}
use Rattle.geometry.specs.Sizes.{across, up}
use Rattle.geometry.specs.Order.{coded_macros}
use Rattle.geometry.specs.Frame.{frame_order}
use Rattle.geometry.specs.Macro.{macro_of}
use Rattle.geometry.specs.Sample.{sample_at}
use Rattle.headers.specs.declared.Session.{Session}
use Rattle.headers.specs.Sizes.{format}
use Rattle.queries.specs.declared.BlockAnswer.{BlockAnswer}
use Rattle.queries.specs.declared.PlaceAnswer.{PlaceAnswer}
use Rattle.queries.specs.declared.NumberAnswer.{NumberAnswer}
use Rattle.queries.specs.Found.{Found, is, absent, refused, on_session, provided, element, position}

-- block (x, y) of plane p; macro block (x, y)
abbrev pub is_block : Block → Block → Bool
is_block b q = eqb q.plane b.plane && eqb q.x b.x && eqb q.y b.y

abbrev pub is_place : ℕ → ℕ → Place → Bool
is_place x y q = eqb q.x x && eqb q.y y

-- the frame has block b
unfoldable pub has_block : PixelFormat → ℕ → ℕ → Block → Bool
has_block f w h b = ltb b.plane 3 && ltb b.x (across f w b.plane) && ltb b.y (up f h b.plane)

-- the block that is number i in coded order, and the number of block b there
unfoldable pub block_at : Session → ℕ → Found Block
block_at s i = on_session s (element i (frame_order (format s) s.fields.fmbw s.fields.fmbh))

unfoldable pub block_number : Session → Block → Found ℕ
block_number s b = on_session s (position (is_block b) (frame_order (format s) s.fields.fmbw s.fields.fmbh))

-- the same of macro blocks
unfoldable pub macro_block_at : Session → ℕ → Found Place
macro_block_at s i = on_session s (element i (coded_macros s.fields.fmbw s.fields.fmbh))

unfoldable pub macro_block_number : Session → ℕ → ℕ → Found ℕ
macro_block_number s x y = on_session s (position (is_place x y) (coded_macros s.fields.fmbw s.fields.fmbh))

-- the macro block that block b belongs to
unfoldable pub macro_block_of : Session → Block → Found Place
macro_block_of s b = on_session s (provided (has_block (format s) s.fields.fmbw s.fields.fmbh b) (macro_of (format s) b))

-- where column c and row r of block b lie in a plane buffer
unfoldable pub sample_offset : Session → Block → ℕ → ℕ → Found ℕ
sample_offset s b c r =
    on_session s (provided (has_block (format s) s.fields.fmbw s.fields.fmbh b && ltb c 8 && ltb r 8) (sample_at (format s) s.fields.fmbw s.fields.fmbh b c r))

-- the answers
abbrev pub as_block : Found Block → BlockAnswer
as_block (is b) = BlockAnswer.Is b
as_block absent = BlockAnswer.Absent
as_block (refused k) = BlockAnswer.Refused k

abbrev pub as_place : Found Place → PlaceAnswer
as_place (is p) = PlaceAnswer.Is p
as_place absent = PlaceAnswer.Absent
as_place (refused k) = PlaceAnswer.Refused k

abbrev pub as_number : Found ℕ → NumberAnswer
as_number (is n) = NumberAnswer.Is n
as_number absent = NumberAnswer.Absent
as_number (refused k) = NumberAnswer.Refused k
