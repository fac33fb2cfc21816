-- The face for C: sessions and answers as lists of numbers, and what each call returns and leaves.
use Rattle.std.specs.Prelude.{ℕ, Bool, ◌&&◌, List, [], ◌∷◌, eqb, length}
use Rattle.bitstream.specs.Reading.{choose}
use Rattle.bitstream.specs.Numbers.{wrong_length}
use Rattle.geometry.specs.Frame.{block}
use Rattle.headers.specs.Identification.{identification, as_identification}
use Rattle.headers.specs.Sizes.{session_sizes}
use Rattle.session_list.specs.List.{Returned, gives, Answered, answers, on_list}
use Rattle.setup.specs.declared.SetupAnswer.{SetupAnswer}
use Rattle.setup.specs.Table.{setup_outcome, as_setup_answer, table_after}
use Rattle.queries.specs.Found.{Found, is, absent, refused}
use Rattle.table_queries.specs.Setup.{table_limit, table_matrix}
use Rattle.queries.specs.Orders.{block_at, block_number, macro_block_at, macro_block_number, macro_block_of, sample_offset, as_block, as_place, as_number}
use Rattle.theora.specs.declared.WorkAnswer.{WorkAnswer}
use Rattle.work_memory.specs.declared.WorkLengths.{WorkLengths}
use Rattle.theora.specs.Lengths.{work_lengths}
use Rattle.answer_lists.specs.Lists.{session_returned, sizes_returned, block_returned, place_returned, number_returned}

-- "a lent length differs from the published one" is 1: in a call without a session before all else
abbrev pub sized : Bool → List ℕ → Returned → Returned
sized lengths old x = choose lengths x (gives wrong_length old)

-- the identification call: a packet, and the lists of the session and of the place. "a lent length differs from the published one" is 1, and then nothing is written
unfoldable pub identification_call : (packet session place : List ℕ) → Answered
identification_call packet session place = choose (eqb (length session) 19 && eqb (length place) 1) (session_returned session (as_identification (identification packet 0))) (answers wrong_length session place)

-- the sizes of a session's frames
abbrev pub sizes_call : List ℕ → List ℕ → Returned
sizes_call session old = on_list 16 session old (λ s. sizes_returned old (session_sizes s))

-- the block that is number i in coded order
abbrev pub block_at_call : List ℕ → ℕ → List ℕ → Returned
block_at_call session i old = on_list 3 session old (λ s. block_returned old (as_block (block_at s i)))

-- the number of block (x, y) of plane p there
abbrev pub block_number_call : List ℕ → ℕ → ℕ → ℕ → List ℕ → Returned
block_number_call session p x y old = on_list 1 session old (λ s. number_returned old (as_number (block_number s (block p x y))))

-- the macro block that is number i in coded order
abbrev pub macro_block_at_call : List ℕ → ℕ → List ℕ → Returned
macro_block_at_call session i old = on_list 2 session old (λ s. place_returned old (as_place (macro_block_at s i)))

-- the number of macro block (x, y) there
abbrev pub macro_block_number_call : List ℕ → ℕ → ℕ → List ℕ → Returned
macro_block_number_call session x y old = on_list 1 session old (λ s. number_returned old (as_number (macro_block_number s x y)))

-- the macro block of block (x, y) of plane p
abbrev pub macro_block_of_call : List ℕ → ℕ → ℕ → ℕ → List ℕ → Returned
macro_block_of_call session p x y old = on_list 2 session old (λ s. place_returned old (as_place (macro_block_of s (block p x y))))

-- where column c and row r of block (x, y) of plane p lie in a plane buffer
abbrev pub sample_offset_call : List ℕ → ℕ → ℕ → ℕ → ℕ → ℕ → List ℕ → Returned
sample_offset_call session p x y c r old = on_list 1 session old (λ s. number_returned old (as_number (sample_offset s (block p x y) c r)))

-- the setup call: its number and place, and every byte of table memory afterwards
abbrev pub setup_returned : (after : List ℕ) → SetupAnswer → Answered
setup_returned after SetupAnswer.Accepted = answers 0 after (0 ∷ [])
setup_returned after (SetupAnswer.Refused k e) = answers k after (e ∷ [])

unfoldable pub setup_call : (packet table place : List ℕ) → Answered
setup_call packet table place = choose (eqb (length place) 1) (setup_returned (table_after table packet) (as_setup_answer (setup_outcome (length table) packet))) (answers wrong_length table place)

-- the loop limit of a qi: 1 for another length, 8 for a memory that is not genuine, 255 for no such qi, in this order
unfoldable pub limit_call : List ℕ → ℕ → List ℕ → Returned
limit_call table qi old = sized (eqb (length old) 1) old (number_returned old (as_number (table_limit table qi)))

-- the 64 numbers of the matrix of a type, a plane and a qi, or the number of the refusal
abbrev pub matrix_found : List ℕ → Found (List ℕ) → Returned
matrix_found old (is m) = gives 0 m
matrix_found old absent = gives 255 old
matrix_found old (refused k) = gives k old

-- the matrix of a type, a plane and a qi: 1 for another length, 8 for a memory that is not genuine, 255 for no such matrix, in this order
unfoldable pub matrix_call : List ℕ → ℕ → ℕ → ℕ → List ℕ → Returned
matrix_call table type plane qi old = sized (eqb (length old) 64) old (matrix_found old (table_matrix table type plane qi))

-- the lengths of work memory as 11 numbers
unfoldable pub length_numbers : WorkLengths → List ℕ
length_numbers l =
    l.records ∷ l.coded ∷ l.coefs ∷ l.dc ∷ l.lasts ∷ l.flags ∷ l.bits ∷ l.supers ∷ l.modes ∷ l.active ∷ l.bytes ∷ []

abbrev pub lengths_returned : List ℕ → WorkAnswer → Returned
lengths_returned old (WorkAnswer.Is l) = gives 0 (length_numbers l)
lengths_returned old (WorkAnswer.Refused k) = gives k old

-- the lengths of work memory for a session's frames
abbrev pub work_lengths_call : List ℕ → List ℕ → Returned
work_lengths_call session old = on_list 11 session old (λ s. lengths_returned old (work_lengths s))
