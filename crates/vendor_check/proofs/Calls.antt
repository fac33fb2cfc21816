-- The ways of a check, one law for each. Assumes nothing.
use Prim.Native.Nat.{ℕ}
use native.Mathlib.Omega.{arith}
use mathlib.Core.Path.{◌≡◌, refl, sym, ap, ◌∙◌}
use mathlib.Core.Bool.{Bool}
use mathlib.Core.List.{List, [], ◌∷◌, map}
use lib.Dec.{eqb}
use lib.ListN.{length, get_or, take, drop}
use borrow.Author.Tests.{ne_eqb}
use Rattle.bitstream.specs.Reading.{Outcome, got, refused, choose}
use Rattle.headers.specs.declared.Session.{Session}
use Rattle.headers.specs.declared.IdentificationAnswer.{IdentificationAnswer}
use Rattle.headers.specs.declared.IdentificationAnswer.TheVariants as session
use Rattle.headers.specs.Identification.{identification, as_identification}
use Rattle.setup.specs.Header.{Setup}
use Rattle.setup.specs.declared.SetupAnswer.{SetupAnswer}
use Rattle.setup.specs.declared.SetupAnswer.TheVariants as answer
use Rattle.setup.specs.Table.{setup_outcome, as_setup_answer, table_after}
use Rattle.ways.specs.Ways.{first_way}
use Rattle.work_memory.specs.Memory.{Memory}
use Rattle.work_memory.specs.Lengths.{lengths_of, cleared}
use Rattle.asked_frame.specs.Answer.{Done}
use Rattle.calls.specs.Call.{by_rules}
use Rattle.packet_list.specs.Packets.{packets_in}
use Rattle.buffer_names.specs.declared.Names.{Names}
use Rattle.buffer_names.specs.Names.{names, names_of, free}
use Rattle.buffer_names.proofs.First.{sound_first}
use Rattle.stream_numbers.specs.Numbers.{numbers_of}
use Rattle.shot_packets.specs.Play.{Shot, shot, state_of, after}
use Rattle.shot_packets.proofs.Rules.{any_memory}
use Rattle.shot_packets.proofs.Packet.{cleared_memory}
use Rattle.shot_packets.proofs.Loop.{holds}
use Rattle.opening.specs.Call.{ShotCall, shot_call, lent_number, shot_number}
use Rattle.shot.specs.Call.{ShotDone, shot_done, start_of, played_by, unchanged, by_shot}
use Rattle.shot_claims.specs.Claims.{answer_of}
use Rattle.opening.proofs.Calls.{passes, accepted, memory_fits, planes_long}
use Rattle.shot.proofs.Calls.{shot_refused, shot_empty, shot_some}
use Rattle.film.specs.Film.{film_of}
use Rattle.watching.specs.declared.Watched.{Watched}
use Rattle.watching.specs.Watch.{watched}
use Rattle.checked_packets.specs.Watch.{watched_all, ChecksAll}
use Rattle.check_answer.specs.declared.CheckAnswer.{CheckAnswer}
use Rattle.check_answer.specs.declared.CheckAnswer.TheVariants.{Refused}
use Rattle.vendor_check.specs.Check.{compared, first_refused, turns_of, checked_shot, CheckDone, check_done, check_of, Lent, fresh, CheckLeft, unplayed, by_setup, by_session, checked, begun_by}
use Rattle.check_answer.specs.Said.{said_by}
use Rattle.vendor_check.proofs.Films.{film_said}

-- ---- the answer and what is left
module _ (c : ShotCall) (file : List ℕ) where
  abbrev played : CheckAnswer
  played = first_refused (map answer_of (turns_of c)) (compared (film_of c.session (turns_of c)) file)

  pub answer_refused : (k : ℕ) → shot_number c ≡ k → (k ≡ 0 → ⊥) → Refused k 0 ≡ checked_shot c file
  unfolding checked_shot
  answer_refused k e n = sym (ap (λ (j : ℕ). choose (eqb j 0) played (Refused j 0)) e ∙ ap (λ (b : Bool). choose b played (Refused k 0)) (ne_eqb k 0 n))

  pub answer_played : shot_number c ≡ 0 → played ≡ checked_shot c file
  unfolding checked_shot
  answer_played e = sym (ap (λ (j : ℕ). choose (eqb j 0) played (Refused j 0)) e)

  -- beside the answer, what the shot leaves
  as_shot : (d : ShotDone) → d ≡ by_shot first_way c → (r : CheckAnswer) → r ≡ checked_shot c file
      → ◌≡◌ {A = CheckDone} (record { answer = r; planes = d.planes; memory = d.memory; answers = d.answers }) (check_of c file)
  unfolding check_of
  as_shot d ed r er = λ i. record { answer = er i; planes = (ed i).planes; memory = (ed i).memory; answers = (ed i).answers }

-- ---- a shot that is checked
module _ (s : Session) (n : Names) (lengths joined table : List ℕ) (m : Memory) (x y z answers file : List ℕ) where
  abbrev c : ShotCall
  c = shot_call s n lengths joined table m x y z answers

  pub check_refused : (k : ℕ) → shot_number c ≡ k → (k ≡ 0 → ⊥) → check_done (Refused k 0) x y z m answers ≡ check_of c file
  check_refused k e some = as_shot c file (unchanged k c) (shot_refused first_way c k e some) (Refused k 0) (answer_refused c file k e some)

  module _ (zero : shot_number c ≡ 0) where
    abbrev k : Names
    k = names_of s n

    passed : lent_number c ≡ 0
    passed = (accepted c zero).0

    abbrev All : Watched → Memory → List (List ℕ) → Watched
    All w m ps = watched_all (by_rules first_way) (numbers_of s) file table w (shot s (x ∷ y ∷ z ∷ []) k m []) ps

    -- a shot of one packet or more may begin with work memory cleared
    from_cleared : (w : Watched) (p : List ℕ) (ps : List (List ℕ)) → All w (cleared (lengths_of s)) (p ∷ ps) ≡ All w m (p ∷ ps)
    unfolding watched_all
    from_cleared w p ps =
        let l = planes_long s n lengths joined table m x y z answers passed in
        let h : Shot = shot s (x ∷ y ∷ z ∷ []) k m [] in
        let e = any_memory first_way (state_of h) p table (get_or (x ∷ y ∷ z ∷ []) (free k) []) (passes c passed).0 (cleared (lengths_of s)) m
        (holds s x y z k (cleared (lengths_of s)) (cleared_memory s) table p l.3 l.0 l.1 l.2 []) (holds s x y z k m (memory_fits s n lengths joined table m x y z answers passed) table p l.3 l.0 l.1 l.2 []) in
        ap (λ (d : Done). watched_all (by_rules first_way) (numbers_of s) file table (watched (numbers_of s) file w d.answer.verdict d.new) (after h d) ps) e

    from_any : (w : Watched) → (length lengths ≡ 0 → ⊥) → All w (cleared (lengths_of s)) (packets_in lengths joined) ≡ All w m (packets_in lengths joined)
    unfolding packets_in
    from_any w some = go lengths some
      where
        go : (lengths : List ℕ) → (length lengths ≡ 0 → ⊥) → All w (cleared (lengths_of s)) (packets_in lengths joined) ≡ All w m (packets_in lengths joined)
        go [] h = absurd (h refl)
        go (n ∷ ns) h = from_cleared w (take n joined) (packets_in ns (drop n joined))

    nothing : (w : Watched) (m : Memory) → length lengths ≡ 0 → w ≡ All w m (packets_in lengths joined)
    unfolding packets_in watched_all
    nothing w m none = go lengths none
      where
        go : (lengths : List ℕ) → length lengths ≡ 0 → w ≡ All w m (packets_in lengths joined)
        go [] h = refl
        go (n ∷ ns) h = absurd (omega arith)

    said_played : said_by (All (begun_by s file) m (packets_in lengths joined)) file ≡ checked_shot c file
    said_played = film_said file table (start_of c) refl (sound_first s n (passes c passed).2) (packets_in lengths joined) ∙ answer_played c file zero

    pub check_empty : length lengths ≡ 0 → {w : Watched} → w ≡ begun_by s file → {r : CheckAnswer} → r ≡ said_by w file → check_done r x y z m answers ≡ check_of c file
    check_empty none {w} ew {r} er =
        as_shot c file (shot_done (played_by s k) x y z m answers) (shot_empty s n lengths joined table m x y z answers zero none k refl) r
        (er ∙ ap (λ (v : Watched). said_by v file) (ew ∙ nothing (begun_by s file) m none) ∙ said_played)

    pub check_some : (length lengths ≡ 0 → ⊥) → {k' : Names} → k' ≡ k → {m₀ : Memory} → m₀ ≡ cleared (lengths_of s) → {w : Watched} → w ≡ begun_by s file
        → {seen : Watched} {x' y' z' : List ℕ} {m' : Memory} {numbers : List ℕ} → ChecksAll table file w (shot s (x ∷ y ∷ z ∷ []) k' m₀ []) (packets_in lengths joined) seen (x' ∷ y' ∷ z' ∷ []) m' numbers
        → {r : CheckAnswer} → r ≡ said_by seen file → check_done r x' y' z' m' numbers ≡ check_of c file
    check_some some ek em ew {seen} {x'} {y'} {z'} {m'} {numbers} p {r} er =
        as_shot c file (shot_done (played_by p.session p.names) x' y' z' m' numbers)
        (shot_some s n lengths joined table m x y z answers zero some ek em p.plays) r
        (er ∙ ap (λ (v : Watched). said_by v file)
        (p.sees ∙ (λ i. watched_all (by_rules first_way) (numbers_of s) file table (ew i) (shot s (x ∷ y ∷ z ∷ []) (ek i) (em i) []) (packets_in lengths joined)) ∙ from_any (begun_by s file) some)
        ∙ said_played)

-- ---- the two headers
module _ (header setup file : List ℕ) (l : Lent) {a : IdentificationAnswer} (ea : a ≡ as_identification (identification header 0)) where
  pub header_refused : {k e : ℕ} → a ≡ session.Refused k e → unplayed k e l.table l ≡ checked header setup file l
  unfolding checked
  header_refused {k} {e} h = go (identification header 0) (sym h ∙ ea)
    where
      go : (o : Outcome Session) → session.Refused k e ≡ as_identification o → unplayed k e l.table l ≡ by_session o setup file l
      go (refused j d) h = let x : k ≡ j = cc in let y : e ≡ d = cc in λ i. unplayed (x i) (y i) l.table l
      go (got s d) h = let z : ◌≡◌ {A = ℕ} 0 1 = cc in absurd (omega arith)

  module _ {s : Session} (h : a ≡ session.Accepted s) where
    to_setup : by_setup s (setup_outcome (length l.table) setup) (table_after l.table setup) file l ≡ checked header setup file l
    unfolding checked
    to_setup = go (identification header 0) (sym h ∙ ea)
      where
        go : (o : Outcome Session) → session.Accepted s ≡ as_identification o → by_setup s (setup_outcome (length l.table) setup) (table_after l.table setup) file l ≡ by_session o setup file l
        go (refused j d) h = let z : ◌≡◌ {A = ℕ} 0 1 = cc in absurd (omega arith)
        go (got t d) h = let x : s ≡ t = cc in ap (λ (s : Session). by_setup s (setup_outcome (length l.table) setup) (table_after l.table setup) file l) x

    module _ {b : SetupAnswer} (eb : b ≡ as_setup_answer (setup_outcome (length l.table) setup)) {table : List ℕ} (et : table ≡ table_after l.table setup) where
      pub setup_refused : {k e : ℕ} → b ≡ answer.Refused k e → unplayed k e table l ≡ checked header setup file l
      setup_refused {k} {e} g = go (setup_outcome (length l.table) setup) (sym g ∙ eb) ∙ to_setup
        where
          go : (o : Outcome Setup) → answer.Refused k e ≡ as_setup_answer o → unplayed k e table l ≡ by_setup s o (table_after l.table setup) file l
          go (refused j d) h = let x : k ≡ j = cc in let y : e ≡ d = cc in λ i. unplayed (x i) (y i) (et i) l
          go (got u d) h = let z : ◌≡◌ {A = ℕ} 0 1 = cc in absurd (omega arith)

      pub both_accepted : b ≡ answer.Accepted → (d : CheckDone) → d ≡ check_of (fresh s table l) file → ◌≡◌ {A = CheckLeft} (record { table = table; done = d }) (checked header setup file l)
      both_accepted g d ed = go (setup_outcome (length l.table) setup) (sym g ∙ eb) ∙ to_setup
        where
          go : (o : Outcome Setup) → answer.Accepted ≡ as_setup_answer o → ◌≡◌ {A = CheckLeft} (record { table = table; done = d }) (by_setup s o (table_after l.table setup) file l)
          go (refused j e) h = let z : ◌≡◌ {A = ℕ} 0 1 = cc in absurd (omega arith)
          go (got u e) h = (λ i. record { table = table; done = ed i }) ∙ ap (λ (t : List ℕ). record { table = t; done = check_of (fresh s t l) file }) et
