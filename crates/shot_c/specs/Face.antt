-- The face of `shot` for C: sessions and names are lists of numbers.
use Rattle.std.specs.Prelude.{ℕ, ◌≡◌, Bool, true, false, ◌&&◌, List, [], ◌∷◌, eqb, length, get_or, set}
use Rattle.bitstream.specs.Reading.{choose}
use Rattle.bitstream.specs.Numbers.{wrong_length}
use Rattle.headers.specs.declared.Session.{Session}
use Rattle.session_list.specs.List.{session_of}
use Rattle.ways.specs.Ways.{first_way}
use Rattle.work_memory.specs.Memory.{Memory}
use Rattle.buffer_names.specs.declared.Names.{Names}
use Rattle.shot.specs.declared.ShotAnswer.{ShotAnswer}
use Rattle.shot.specs.declared.ShotVerdict.{ShotVerdict}
use Rattle.shot.specs.declared.ShotVerdict.TheVariants.{Played, Refused}
use Rattle.opening.specs.Call.{shot_call}
use Rattle.shot.specs.Call.{ShotDone, by_shot}

-- the names of golden and previous as 2 numbers
abbrev pub names_in : List ℕ → Names
names_in l = record { golden = get_or l 0 0; previous = get_or l 1 0 }

abbrev pub name_numbers : Names → List ℕ
name_numbers n = n.golden ∷ n.previous ∷ []

-- "references: 0 is no, any other number is yes": a number stays where it says the same
abbrev pub reference_number : Bool → ℕ → ℕ
reference_number true old = choose (eqb old 0) 1 old
reference_number false old = 0

-- the session's list after packets that leave the session s: its flag and its two numbers
abbrev pub session_numbers : Session → List ℕ → List ℕ
session_numbers s l = set (set (set l 16 (reference_number s.references (get_or l 16 0))) 17 s.key_frames) 18 s.others

-- what a call returns, and what both lists hold afterwards: 0 and session and names for the next call; or the number of the refusal, and both as they were
pub record Lists : Type 0 where
  pub number : ℕ
  pub session : List ℕ
  pub names : List ℕ

abbrev pub lists : ℕ → (session names : List ℕ) → Lists
lists k session names = record { number = k; session = session; names = names }

abbrev pub lists_by : (session names : List ℕ) → Session → Names → ShotVerdict → Lists
lists_by session names s n Played = lists 0 (session_numbers s session) (name_numbers n)
lists_by session names s n (Refused k) = lists k session names

abbrev pub lists_after : (session names : List ℕ) → ShotAnswer → Lists
lists_after session names a = lists_by session names a.session a.names a.verdict

-- the same, and all else that is lent to be written: three buffers, work memory and the packets' answers
pub record ShotReturned : Type 0 where
  pub lists : Lists
  pub planes : List (List ℕ)
  pub memory : Memory
  pub answers : List ℕ

abbrev pub shot_gives : Lists → (first second third : List ℕ) → Memory → (answers : List ℕ) → ShotReturned
shot_gives l first second third memory answers = record { lists = l; planes = first ∷ second ∷ third ∷ []; memory = memory; answers = answers }

abbrev pub done_returned : (session names : List ℕ) → ShotDone → ShotReturned
done_returned session names d = record { lists = lists_after session names d.answer; planes = d.planes; memory = d.memory; answers = d.answers }

-- a list of the session that has not 19 numbers, or one of the names that has not 2, is 1: there is nothing to judge. Else the call of `shot`
unfoldable pub shot_face : (session names lengths joined table : List ℕ) → Memory → (first second third answers : List ℕ) → ShotReturned
shot_face session names lengths joined table memory first second third answers =
    choose (eqb (length session) 19 && eqb (length names) 2)
    (done_returned session names (by_shot first_way (shot_call (session_of session) (names_in names) lengths joined table memory first second third answers)))
    (shot_gives (lists wrong_length session names) first second third memory answers)

-- ---- the lists that a call leaves say what the next call is to be given: session and names as `shot` answers them
abbrev pub ListsSay : Type 0
ListsSay = (session names lengths joined table : List ℕ) (m : Memory) (first second third answers : List ℕ) → length session ≡ 19 → length names ≡ 2
    → let a = (by_shot first_way (shot_call (session_of session) (names_in names) lengths joined table m first second third answers)).answer in
    let r = (shot_face session names lengths joined table m first second third answers).lists in
    (session_of r.session ≡ a.session) × (names_in r.names ≡ a.names)
