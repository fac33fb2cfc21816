-- What is promised of a check beside its contract: when a file passes, which byte is named, what wins, and what is left.
use Rattle.std.specs.Prelude.{ℕ, ◌≤◌, ◌<◌, ◌≡◌, List, [], ◌∷◌, ◌++◌, map, ◌⊎◌, ◌≢◌, length, take, get_or}
use Rattle.bitstream.specs.Reading.{got, refused}
use Rattle.bitstream.specs.Numbers.{not_genuine}
use Rattle.headers.specs.declared.Session.{Session}
use Rattle.headers.specs.Identification.{identification}
use Rattle.setup.specs.Header.{Setup}
use Rattle.setup.specs.Table.{setup_outcome, table_after}
use Rattle.ways.specs.Ways.{first_way}
use Rattle.reading.specs.declared.FrameAnswer.{FrameAnswer}
use Rattle.reading.specs.declared.Verdict.{Verdict}
use Rattle.reading.specs.declared.Verdict.TheVariants as verdict
use Rattle.stream_numbers.specs.Numbers.{numbers_of}
use Rattle.y4m.specs.Film.{holds, film_in}
use Rattle.opening.specs.Call.{ShotCall, shot_number}
use Rattle.shot.specs.Call.{by_shot}
use Rattle.shot_claims.specs.Claims.{answer_of}
use Rattle.film.specs.Film.{frames_of, joined, film_of}
use Rattle.check_answer.specs.declared.CheckAnswer.{CheckAnswer}
use Rattle.check_answer.specs.declared.CheckAnswer.TheVariants.{Passes, Differs, Refused}
use Rattle.vendor_check.specs.Check.{turns_of, Lent, fresh, checked, unplayed}

-- both headers are accepted, and the packets are those of this shot call
pub record Begins (header setup : List ℕ) (l : Lent) (c : ShotCall) : Type 0 where
  pub session : Session
  pub place : ℕ
  pub accepted : identification header 0 ≡ got session place
  pub says : Setup
  pub end : ℕ
  pub kept : setup_outcome (length l.table) setup ≡ got says end
  pub is : c ≡ fresh session (table_after l.table setup) l

abbrev pub IsAccepted : Verdict → Type 0
IsAccepted (verdict.Accepted t) = Unit {0}
IsAccepted (verdict.Refused k e) = ⊥

unfoldable pub AllAccepted : List FrameAnswer → Type 0
AllAccepted [] = Unit {0}
AllAccepted (a ∷ rest) = IsAccepted a.verdict × AllAccepted rest

-- "every packet is accepted": both headers, request 6's own checks, and all packets
pub record Accepts (header setup : List ℕ) (l : Lent) (c : ShotCall) : Type 0 where
  pub begins : Begins header setup l c
  pub unrefused : shot_number c ≡ 0
  pub all : AllAccepted (map answer_of (turns_of c))

abbrev pub answer : (header setup file : List ℕ) → Lent → CheckAnswer
answer header setup file l = (checked header setup file l).done.answer

-- ---- "It passes the file exactly if every packet is accepted and the file is what Ask 1 would write for them"
abbrev pub PassesExactly : Type 0
PassesExactly = (header setup file : List ℕ) (l : Lent)
    → (answer header setup file l ≡ Passes → (c : ShotCall) × Accepts header setup l c × (file ≡ film_of c.session (turns_of c)))
    × ((c : ShotCall) → Accepts header setup l c → file ≡ film_of c.session (turns_of c) → answer header setup file l ≡ Passes)

-- ---- "Otherwise it names the first differing byte; a file cut short or too long differs at the shorter length"
pub record FirstDifference (n : ℕ) (want file : List ℕ) : Type 0 where
  pub before : take n want ≡ take n file
  pub here : ((n < length want) × (n < length file) × (get_or want n 0 ≢ get_or file n 0)) ⊎ (((n ≡ length want) × (n < length file)) ⊎ ((n ≡ length file) × (n < length want)))

abbrev pub DiffersFirst : Type 0
DiffersFirst = (header setup file : List ℕ) (l : Lent) (n : ℕ) → answer header setup file l ≡ Differs n
    → (c : ShotCall) × Accepts header setup l c × FirstDifference n (film_of c.session (turns_of c)) file

-- ---- "The first refusal, of a header, of Ask 6's own or of a packet, .. wins over any difference": whatever the file
pub record RefusalWins (header setup : List ℕ) (l : Lent) : Type 0 where
  pub of_identification : (k e : ℕ) → identification header 0 ≡ refused k e → (file : List ℕ) → answer header setup file l ≡ Refused k e
  pub of_setup : (s : Session) (p k e : ℕ) → identification header 0 ≡ got s p → setup_outcome (length l.table) setup ≡ refused k e → (file : List ℕ) → answer header setup file l ≡ Refused k e
  pub of_shot : (c : ShotCall) → Begins header setup l c → shot_number c ≢ 0 → (file : List ℕ) → answer header setup file l ≡ Refused (shot_number c) 0
  pub of_packet : (c : ShotCall) → Begins header setup l c → shot_number c ≡ 0 → (before behind : List FrameAnswer) (a : FrameAnswer) (k e : ℕ)
      → map answer_of (turns_of c) ≡ before ++ (a ∷ behind) → AllAccepted before → a.verdict ≡ verdict.Refused k e → (file : List ℕ) → answer header setup file l ≡ Refused k e

abbrev pub RefusalsWin : Type 0
RefusalsWin = (header setup : List ℕ) (l : Lent) → RefusalWins header setup l

-- ---- "planes, memory and answers are .. left as in Ask 6", table memory as the setup call leaves it; by an identification header that is refused nothing is touched
pub record LeftAsShot (header setup file : List ℕ) (l : Lent) : Type 0 where
  pub unread : (k e : ℕ) → identification header 0 ≡ refused k e → checked header setup file l ≡ unplayed k e l.table l
  pub unplayed_left : (s : Session) (p k e : ℕ) → identification header 0 ≡ got s p → setup_outcome (length l.table) setup ≡ refused k e → checked header setup file l ≡ unplayed k e (table_after l.table setup) l
  pub table : (c : ShotCall) → Begins header setup l c → (checked header setup file l).table ≡ table_after l.table setup
  pub planes : (c : ShotCall) → Begins header setup l c → (checked header setup file l).done.planes ≡ (by_shot first_way c).planes
  pub memory : (c : ShotCall) → Begins header setup l c → (checked header setup file l).done.memory ≡ (by_shot first_way c).memory
  pub answers : (c : ShotCall) → Begins header setup l c → (checked header setup file l).done.answers ≡ (by_shot first_way c).answers

abbrev pub LeftAsShots : Type 0
LeftAsShots = (header setup file : List ℕ) (l : Lent) → LeftAsShot header setup file l

-- ---- request 6's own 8 cannot arise
abbrev pub Never8 : Type 0
Never8 = (header setup : List ℕ) (l : Lent) (c : ShotCall) → Begins header setup l c → shot_number c ≢ not_genuine

-- ---- with request 1: the file passes exactly if its reader, lent enough room, gives these numbers and these planes
abbrev pub PassesByReader : Type 0
PassesByReader = (header setup file : List ℕ) (l : Lent) (c : ShotCall) → Accepts header setup l c → (room : ℕ) → length (joined (frames_of (turns_of c))) ≤ room
    → let want = holds (numbers_of c.session) (length (frames_of (turns_of c))) (joined (frames_of (turns_of c))) in
    (answer header setup file l ≡ Passes → film_in file room ≡ want) × (film_in file room ≡ want → answer header setup file l ≡ Passes)
