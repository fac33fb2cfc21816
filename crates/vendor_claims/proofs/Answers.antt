-- When a file passes, which byte is named, what wins and what is left. Assumes nothing.
use Prim.Native.Nat.{ℕ}
use native.Mathlib.Omega.{arith}
use mathlib.Core.Path.{◌≡◌, refl, sym, ap, ◌∙◌, subst}
use mathlib.Core.Bool.{Bool, true, false}
use mathlib.Core.List.{List, [], ◌∷◌, ◌++◌, map}
use lib.Dec.{eqb}
use lib.ListN.{length}
use borrow.Author.Tests.{eqb-true}
use Rattle.bitstream.specs.Reading.{Outcome, got, refused, choose}
use Rattle.bitstream.proofs.Fields.{no_mix}
use Rattle.headers.specs.declared.Session.{Session}
use Rattle.headers.specs.Fits.{session_fits}
use Rattle.headers.specs.Identification.{identification}
use Rattle.headers.proofs.Accepted.{accepted_fits}
use Rattle.setup.specs.Header.{Setup, setup_header}
use Rattle.setup.specs.Table.{table_bytes, setup_outcome, table_after, is_table}
use Rattle.setup.proofs.Laws.{accepted_table}
use Rattle.reading.specs.declared.FrameAnswer.{FrameAnswer}
use Rattle.reading.specs.declared.Verdict.{Verdict}
use Rattle.reading.specs.declared.Verdict.TheVariants as verdict
use Rattle.text.specs.Same.{same}
use Rattle.text.proofs.Texts.{same_eq, same_refl}
use Rattle.buffer_names.specs.Names.{names, names_fit}
use Rattle.opening.specs.Call.{ShotCall, shot_lengths_fit, reaches, lent_number, shot_number}
use Rattle.shot_claims.specs.Claims.{answer_of}
use Rattle.film.specs.Film.{film_of}
use Rattle.stream_check.specs.Compared.{difference}
use Rattle.check_answer.specs.declared.CheckAnswer.{CheckAnswer}
use Rattle.check_answer.specs.declared.CheckAnswer.TheVariants.{Passes, Differs, Refused}
use Rattle.vendor_check.specs.Check.{compared, refused_or, first_refused, turns_of, checked_shot, check_of, Lent, fresh, CheckLeft, unplayed, by_setup, by_session, checked}
use Rattle.vendor_check.proofs.Calls.{answer_refused, answer_played}
use Rattle.vendor_claims.specs.Claims.{Begins, IsAccepted, AllAccepted, Accepts, answer, FirstDifference, PassesExactly, DiffersFirst, RefusalsWin, LeftAsShots, Never8}
use Rattle.vendor_claims.proofs.First.{first_difference}

-- ---- the call, where both headers are accepted, and where one is not
module _ (header setup file : List ℕ) (l : Lent) where
  abbrev table : List ℕ
  table = table_after l.table setup

  unread_left : (k e : ℕ) → identification header 0 ≡ refused k e → checked header setup file l ≡ unplayed k e l.table l
  unfolding checked
  unread_left k e h = ap (λ (o : Outcome Session). by_session o setup file l) h

  unset_left : (s : Session) (p k e : ℕ) → identification header 0 ≡ got s p → setup_outcome (length l.table) setup ≡ refused k e → checked header setup file l ≡ unplayed k e table l
  unfolding checked
  unset_left s p k e h g = ap (λ (o : Outcome Session). by_session o setup file l) h ∙ ap (λ (o : Outcome Setup). by_setup s o table file l) g

  begun_left : (c : ShotCall) → Begins header setup l c → checked header setup file l ≡ record { table = table; done = check_of c file }
  unfolding checked
  begun_left c b =
      ap (λ (o : Outcome Session). by_session o setup file l) b.accepted ∙ ap (λ (o : Outcome Setup). by_setup b.session o table file l) b.kept
      ∙ ap (λ (c : ShotCall). record { table = table; done = check_of c file }) (sym b.is)

  begun_answer : (c : ShotCall) → Begins header setup l c → answer header setup file l ≡ checked_shot c file
  unfolding check_of
  begun_answer c b = ap (λ (x : CheckLeft). x.done.answer) (begun_left c b)

-- ---- an answer that is no refusal
abbrev NoRefusal : CheckAnswer → Type 0
NoRefusal Passes = Unit {0}
NoRefusal (Differs n) = Unit {0}
NoRefusal (Refused k e) = ⊥

all_accepted : (list : List FrameAnswer) (r : CheckAnswer) → NoRefusal (first_refused list r) → AllAccepted list × (first_refused list r ≡ r)
unfolding first_refused AllAccepted
all_accepted [] r h = (tt, refl)
all_accepted (a ∷ rest) r h = go a.verdict (all_accepted rest r) h
  where
    go : (v : Verdict) → (NoRefusal (first_refused rest r) → AllAccepted rest × (first_refused rest r ≡ r)) → NoRefusal (refused_or v (first_refused rest r))
        → (IsAccepted v × AllAccepted rest) × (refused_or v (first_refused rest r) ≡ r)
    go (verdict.Accepted t) f h = let q = f h in ((tt, q.0), q.1)
    go (verdict.Refused k e) f h = absurd h

none_refused : (list : List FrameAnswer) (r : CheckAnswer) → AllAccepted list → first_refused list r ≡ r
unfolding first_refused AllAccepted
none_refused [] r h = refl
none_refused (a ∷ rest) r h = go a.verdict h.0 (none_refused rest r h.1)
  where
    go : (v : Verdict) → IsAccepted v → first_refused rest r ≡ r → refused_or v (first_refused rest r) ≡ r
    go (verdict.Accepted t) u f = f
    go (verdict.Refused k e) u f = absurd u

first_wins : (before behind : List FrameAnswer) (a : FrameAnswer) (k e : ℕ) (r : CheckAnswer) → AllAccepted before → a.verdict ≡ verdict.Refused k e → first_refused (before ++ (a ∷ behind)) r ≡ Refused k e
unfolding first_refused AllAccepted
first_wins [] behind a k e r h v = ap (λ (v : Verdict). refused_or v (first_refused behind r)) v
first_wins (b ∷ before) behind a k e r h v = go b.verdict h.0 (first_wins before behind a k e r h.1 v)
  where
    go : (w : Verdict) → IsAccepted w → first_refused (before ++ (a ∷ behind)) r ≡ Refused k e → refused_or w (first_refused (before ++ (a ∷ behind)) r) ≡ Refused k e
    go (verdict.Accepted t) u f = f
    go (verdict.Refused j d) u f = absurd u

-- ---- where nothing is refused
module _ (header setup file : List ℕ) (l : Lent) where
  -- what was compared
  pub record Compared (r : CheckAnswer) : Type 0 where
    pub call : ShotCall
    pub accepts : Accepts header setup l call
    pub is : r ≡ compared (film_of call.session (turns_of call)) file

  shot_compared : (c : ShotCall) → Begins header setup l c → NoRefusal (checked_shot c file) → Compared (checked_shot c file)
  unfolding checked_shot
  shot_compared c b h = go (eqb (shot_number c) 0) refl h
    where
      go : (t : Bool) → eqb (shot_number c) 0 ≡ t → NoRefusal (choose t (first_refused (map answer_of (turns_of c)) (compared (film_of c.session (turns_of c)) file)) (Refused (shot_number c) 0))
          → Compared (choose t (first_refused (map answer_of (turns_of c)) (compared (film_of c.session (turns_of c)) file)) (Refused (shot_number c) 0))
      go true e h =
          let q = all_accepted (map answer_of (turns_of c)) (compared (film_of c.session (turns_of c)) file) h in
          record { call = c; accepts = record { begins = b; unrefused = eqb-true (shot_number c) 0 e; all = q.0 }; is = q.1 }
      go false e h = absurd h

  answer_compared : NoRefusal (answer header setup file l) → Compared (answer header setup file l)
  answer_compared h = headers (identification header 0) refl
    where
      sets : (s : Session) (p : ℕ) → identification header 0 ≡ got s p → (o : Outcome Setup) → setup_outcome (length l.table) setup ≡ o → Compared (answer header setup file l)
      sets s p e (refused k d) f = absurd (subst NoRefusal (ap (λ (x : CheckLeft). x.done.answer) (unset_left header setup file l s p k d e f)) h)
      sets s p e (got u d) f =
          let c = fresh s (table_after l.table setup) l in
          let b : Begins header setup l c = record { session = s; place = p; accepted = e; says = u; end = d; kept = f; is = refl } in
          let q = begun_answer header setup file l c b in
          subst Compared (sym q) (shot_compared c b (subst NoRefusal q h))

      headers : (o : Outcome Session) → identification header 0 ≡ o → Compared (answer header setup file l)
      headers (refused k d) e = absurd (subst NoRefusal (ap (λ (x : CheckLeft). x.done.answer) (unread_left header setup file l k d e)) h)
      headers (got s p) e = sets s p e (setup_outcome (length l.table) setup) refl

  accepted_answer : (c : ShotCall) → Accepts header setup l c → answer header setup file l ≡ compared (film_of c.session (turns_of c)) file
  accepted_answer c a =
      begun_answer header setup file l c a.begins ∙ sym (answer_played c file a.unrefused) ∙ none_refused (map answer_of (turns_of c)) (compared (film_of c.session (turns_of c)) file) a.all

passed_same : (want file : List ℕ) → compared want file ≡ Passes → file ≡ want
passed_same want file h = go (same want file) refl h
  where
    go : (t : Bool) → same want file ≡ t → choose t Passes (Differs (difference want file)) ≡ Passes → file ≡ want
    go true e h = sym (same_eq want file e)
    go false e h = let z : ◌≡◌ {A = ℕ} 0 1 = cc in absurd (omega arith)

same_passed : (want file : List ℕ) → file ≡ want → compared want file ≡ Passes
same_passed want file e = ap (λ (b : Bool). choose b Passes (Differs (difference want file))) (ap (same want) e ∙ same_refl want)

differs_at : (want file : List ℕ) (n : ℕ) → compared want file ≡ Differs n → FirstDifference n want file
differs_at want file n h = go (same want file) refl h
  where
    go : (t : Bool) → same want file ≡ t → choose t Passes (Differs (difference want file)) ≡ Differs n → FirstDifference n want file
    go true e h = let z : ◌≡◌ {A = ℕ} 0 1 = cc in absurd (omega arith)
    go false e h =
        let q : difference want file ≡ n = cc in
        subst (λ (k : ℕ). FirstDifference k want file) q (first_difference want file (λ p. let z : true ≡ false = sym (ap (same want) (sym p) ∙ same_refl want) ∙ e in let y : ◌≡◌ {A = ℕ} 0 1 = cc in absurd (omega arith)))

-- of one call whose packets are all accepted
pub accepted_same : (header setup file : List ℕ) (l : Lent) (c : ShotCall) → Accepts header setup l c → answer header setup file l ≡ Passes → file ≡ film_of c.session (turns_of c)
accepted_same header setup file l c a h = passed_same (film_of c.session (turns_of c)) file (sym (accepted_answer header setup file l c a) ∙ h)

pub same_accepted : (header setup file : List ℕ) (l : Lent) (c : ShotCall) → Accepts header setup l c → file ≡ film_of c.session (turns_of c) → answer header setup file l ≡ Passes
same_accepted header setup file l c a e = accepted_answer header setup file l c a ∙ same_passed (film_of c.session (turns_of c)) file e

pub passes_exactly : PassesExactly
passes_exactly header setup file l = (
  (λ h. let q = answer_compared header setup file l (subst NoRefusal (sym h) tt) in (q.call, q.accepts, passed_same (film_of q.call.session (turns_of q.call)) file (sym q.is ∙ h))),
  (λ c a e. same_accepted header setup file l c a e),
)

pub differs_first : DiffersFirst
differs_first header setup file l n h =
    let q = answer_compared header setup file l (subst NoRefusal (sym h) tt) in
    (q.call, q.accepts, differs_at (film_of q.call.session (turns_of q.call)) file n (sym q.is ∙ h))

pub refusals_win : RefusalsWin
refusals_win header setup l = record {
  of_identification = λ k e h file. ap (λ (x : CheckLeft). x.done.answer) (unread_left header setup file l k e h);
  of_setup = λ s p k e h g file. ap (λ (x : CheckLeft). x.done.answer) (unset_left header setup file l s p k e h g);
  of_shot = λ c b n file. begun_answer header setup file l c b ∙ sym (answer_refused c file (shot_number c) refl n);
  of_packet = λ c b z before behind a k e q h v file.
      begun_answer header setup file l c b ∙ sym (answer_played c file z)
      ∙ ap (λ (list : List FrameAnswer). first_refused list (compared (film_of c.session (turns_of c)) file)) q
      ∙ first_wins before behind a k e (compared (film_of c.session (turns_of c)) file) h v;
}

pub left_as_shots : LeftAsShots
unfolding check_of
left_as_shots header setup file l = record {
  unread = λ k e h. unread_left header setup file l k e h;
  unplayed_left = λ s p k e h g. unset_left header setup file l s p k e h g;
  table = λ c b. ap (λ (x : CheckLeft). x.table) (begun_left header setup file l c b);
  planes = λ c b. ap (λ (x : CheckLeft). x.done.planes) (begun_left header setup file l c b);
  memory = λ c b. ap (λ (x : CheckLeft). x.done.memory) (begun_left header setup file l c b);
  answers = λ c b. ap (λ (x : CheckLeft). x.done.answers) (begun_left header setup file l c b);
}

-- ---- request 6's own 8 cannot arise
setup_whole : (old packet : List ℕ) {u : Setup} {e : ℕ} → setup_outcome (length old) packet ≡ got u e → is_table (table_after old packet) ≡ true
unfolding setup_outcome
setup_whole old packet {u} {e} h = go (eqb (length old) table_bytes) refl h
  where
    go : (b : Bool) → eqb (length old) table_bytes ≡ b → choose b (setup_header packet 0) (refused 1 0) ≡ got u e → is_table (table_after old packet) ≡ true
    go true t r = accepted_table old packet (eqb-true (length old) table_bytes t) r
    go false t r = no_mix (sym r)

not_8 : (c : ShotCall) → session_fits c.session ≡ true → names_fit c.session c.names ≡ true → is_table c.table ≡ true → shot_number c ≡ 8 → ⊥
unfolding shot_number lent_number
not_8 c fits named held h = go (shot_lengths_fit c) (reaches c) (sym (rw (fits, named, held)) ∙ h)
  where
    go : (x y : Bool) → ◌≡◌ {A = ℕ} (choose (eqb (choose true (choose x (choose true 0 8) 1) 8) 0) (choose true (choose y 0 16) 8) (choose true (choose x (choose true 0 8) 1) 8)) 8 → ⊥
    go true true h = absurd (omega arith)
    go true false h = absurd (omega arith)
    go false y h = absurd (omega arith)

pub never_8 : Never8
never_8 header setup l c b h =
    let f = accepted_fits header 0 b.accepted in
    let d = fresh b.session (table_after l.table setup) l in
    not_8 d f.0 (ap (λ (t : Bool). choose t false true) f.1) (setup_whole l.table setup b.kept) (ap shot_number (sym b.is) ∙ h)
