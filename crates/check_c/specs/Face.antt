-- The face of `vendor_check` for C: what was found is 2 numbers.
use Rattle.std.specs.Prelude.{ℕ, List, [], ◌∷◌, eqb, length}
use Rattle.bitstream.specs.Reading.{choose}
use Rattle.bitstream.specs.Numbers.{wrong_length}
use Rattle.work_memory.specs.Memory.{Memory}
use Rattle.vendor_check.specs.Check.{Lent, CheckLeft, checked}
use Rattle.check_answer.specs.Found.{Returned, returned, found_by}

-- the same, and all else that is lent to be written
pub record CheckReturned : Type 0 where
  pub returned : Returned
  pub table : List ℕ
  pub planes : List (List ℕ)
  pub memory : Memory
  pub answers : List ℕ

abbrev pub check_gives : Returned → (table first second third : List ℕ) → Memory → (answers : List ℕ) → CheckReturned
check_gives r table first second third memory answers = record { returned = r; table = table; planes = first ∷ second ∷ third ∷ []; memory = memory; answers = answers }

abbrev pub left_returned : CheckLeft → CheckReturned
left_returned l = record { returned = found_by l.done.answer; table = l.table; planes = l.done.planes; memory = l.done.memory; answers = l.done.answers }

abbrev pub untouched : (found : List ℕ) → Lent → CheckReturned
untouched found l = record { returned = returned wrong_length found; table = l.table; planes = l.planes; memory = l.memory; answers = l.answers }

-- a list of what was found that has not 2 numbers is 1, found first: nothing changes. Else the call of `vendor_check`
unfoldable pub check_face : (identification setup file : List ℕ) → Lent → (found : List ℕ) → CheckReturned
check_face identification setup file l found = choose (eqb (length found) 2) (left_returned (checked identification setup file l)) (untouched found l)
