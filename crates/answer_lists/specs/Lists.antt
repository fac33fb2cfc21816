-- Sessions and answers as lists of numbers: what each case of an answer returns and leaves.
use Rattle.std.specs.Prelude.{ℕ, Bool, true, false, List, [], ◌∷◌, eqb, length}
use Rattle.bitstream.specs.Reading.{choose}
use Rattle.bitstream.specs.Numbers.{wrong_length, not_genuine}
use Rattle.geometry.specs.declared.FrameSizes.{FrameSizes}
use Rattle.headers.specs.declared.Session.{Session}
use Rattle.headers.specs.declared.IdentificationAnswer.{IdentificationAnswer}
use Rattle.headers.specs.declared.SizesAnswer.{SizesAnswer}
use Rattle.session_list.specs.List.{Returned, gives, Answered, answers}
use Rattle.setup.specs.Table.{table_bytes, is_table}
use Rattle.queries.specs.declared.BlockAnswer.{BlockAnswer}
use Rattle.queries.specs.declared.PlaceAnswer.{PlaceAnswer}
use Rattle.queries.specs.declared.NumberAnswer.{NumberAnswer}
use Rattle.table_queries.specs.declared.MatrixAnswer.{MatrixAnswer}

-- "references: 0 is no, any other number is yes"
abbrev pub flag : Bool → ℕ
flag true = 1
flag false = 0

-- a session as 19 numbers; `session_list` has the way back
unfoldable pub numbers_of : Session → List ℕ
numbers_of s =
    s.fields.vrev ∷ s.fields.fmbw ∷ s.fields.fmbh ∷ s.fields.picw ∷ s.fields.pich ∷ s.fields.picx ∷ s.fields.picy ∷ s.fields.frn ∷ s.fields.frd ∷ s.fields.parn ∷ s.fields.pard ∷ s.fields.cs
    ∷ s.fields.nombr ∷ s.fields.qual ∷ s.fields.kfgshift ∷ s.fields.pf ∷ flag s.references ∷ s.key_frames ∷ s.others ∷ []

-- the sizes as 16 numbers
unfoldable pub size_numbers : FrameSizes → List ℕ
size_numbers n =
    n.macro_blocks ∷ n.blocks ∷ n.super_blocks ∷ n.buffer
    ∷ n.luma.across ∷ n.luma.up ∷ n.luma.offset ∷ n.luma.length
    ∷ n.cb.across ∷ n.cb.up ∷ n.cb.offset ∷ n.cb.length
    ∷ n.cr.across ∷ n.cr.up ∷ n.cr.offset ∷ n.cr.length ∷ []

-- what each case of an answer returns and leaves; 255 says that the frame has no such thing. A header's place is 0 where it is accepted
abbrev pub session_returned : List ℕ → IdentificationAnswer → Answered
session_returned old (IdentificationAnswer.Accepted s) = answers 0 (numbers_of s) (0 ∷ [])
session_returned old (IdentificationAnswer.Refused k e) = answers k old (e ∷ [])

abbrev pub sizes_returned : List ℕ → SizesAnswer → Returned
sizes_returned old (SizesAnswer.Is n) = gives 0 (size_numbers n)
sizes_returned old (SizesAnswer.Refused k) = gives k old

-- a block is 3 numbers, a macro block's place 2, a number 1
abbrev pub block_returned : List ℕ → BlockAnswer → Returned
block_returned old (BlockAnswer.Is b) = gives 0 (b.plane ∷ b.x ∷ b.y ∷ [])
block_returned old BlockAnswer.Absent = gives 255 old
block_returned old (BlockAnswer.Refused k) = gives k old

abbrev pub place_returned : List ℕ → PlaceAnswer → Returned
place_returned old (PlaceAnswer.Is p) = gives 0 (p.x ∷ p.y ∷ [])
place_returned old PlaceAnswer.Absent = gives 255 old
place_returned old (PlaceAnswer.Refused k) = gives k old

abbrev pub number_returned : List ℕ → NumberAnswer → Returned
number_returned old (NumberAnswer.Is n) = gives 0 (n ∷ [])
number_returned old NumberAnswer.Absent = gives 255 old
number_returned old (NumberAnswer.Refused k) = gives k old

-- "no accepted setup packet leaves this table memory" is 8, after 1
unfoldable pub table_call : List ℕ → ℕ
table_call table = choose (eqb (length table) table_bytes) (choose (is_table table) 0 not_genuine) wrong_length

-- the answer of a matrix, whose numbers stand beside it
abbrev pub matrix_returned : List ℕ → List ℕ → MatrixAnswer → Returned
matrix_returned old numbers MatrixAnswer.Is = gives 0 numbers
matrix_returned old numbers MatrixAnswer.Absent = gives 255 old
matrix_returned old numbers (MatrixAnswer.Refused k) = gives k old
