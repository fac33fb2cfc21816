-- The headers of a recording: its first and its third packet. Assumes nothing.
use Prim.Native.Nat.{ℕ, zero, suc, ◌+◌, ◌-◌, ◌≤◌, ◌<◌}
use native.Mathlib.Omega.{arith}
use mathlib.Core.Path.{◌≡◌, refl, sym, ap, ◌∙◌}
use mathlib.Core.List.{List, [], ◌∷◌}
use lib.ListN.{length, get_or, take, drop}
use lib.Seq.{drop-drop}
use borrow.Author.Tests.{lt-ltb, le-ltb, eq-eqb, ne_eqb}
use Rattle.bitstream.specs.Reading.{Outcome, got, refused, after}
use Rattle.headers.specs.declared.Session.{Session}
use Rattle.headers.specs.declared.IdentificationAnswer.{IdentificationAnswer}
use Rattle.headers.specs.Identification.{identification, as_identification}
use Rattle.setup.specs.Header.{Setup}
use Rattle.setup.specs.declared.SetupAnswer.{SetupAnswer}
use Rattle.setup.specs.Table.{setup_outcome, as_setup_answer, table_after}
use Rattle.packet_list.specs.Packets.{packets_in, total}
use Rattle.packet_list.proofs.Cut.{packets_many}
use Rattle.census_packets.specs.declared.HeadersAnswer.{HeadersAnswer}
use Rattle.census_packets.specs.Recording.{setup_of, headers_of}
use Rattle.census_packets.specs.Inner.{as_headers, IfSound}

pub some : (n : ℕ) → (n ≡ 0 → ⊥) → 1 ≤ n
some zero h = absurd (h refl)
some (suc n) h = omega arith

-- where the first and the third packet lie
pub first_is : (lengths packets : List ℕ) → 1 ≤ length lengths → get_or (packets_in lengths packets) 0 [] ≡ take (get_or lengths 0 0) packets
unfolding packets_in
first_is [] packets h = absurd (omega arith)
first_is (n ∷ ns) packets h = refl

pub third_is : (lengths packets : List ℕ) → 3 ≤ length lengths
    → get_or (packets_in lengths packets) 2 [] ≡ take (get_or lengths 2 0) (drop (get_or lengths 0 0 + get_or lengths 1 0) packets)
unfolding packets_in
third_is [] packets h = absurd (omega arith)
third_is (a ∷ []) packets h = absurd (omega arith)
third_is (a ∷ b ∷ []) packets h = absurd (omega arith)
third_is (a ∷ b ∷ c ∷ ns) packets h = ap (take c) (drop-drop b a packets)

pub total_first : (lengths : List ℕ) → 1 ≤ length lengths → get_or lengths 0 0 ≤ total lengths
unfolding total
total_first [] h = absurd (omega arith)
total_first (a ∷ ns) h = omega arith

pub total_three : (lengths : List ℕ) → 3 ≤ length lengths
    → (total (take 3 lengths) ≡ get_or lengths 0 0 + get_or lengths 1 0 + get_or lengths 2 0) × (get_or lengths 0 0 + get_or lengths 1 0 + get_or lengths 2 0 + total (drop 3 lengths) ≡ total lengths)
unfolding total
total_three [] h = absurd (omega arith)
total_three (a ∷ []) h = absurd (omega arith)
total_three (a ∷ b ∷ []) h = absurd (omega arith)
total_three (a ∷ b ∷ c ∷ ns) h = (omega arith, omega arith)

-- ---- the setup header
module _ (lengths packets table : List ℕ) (s : Session) where
  abbrev ps : List (List ℕ)
  ps = packets_in lengths packets

  abbrev Answered : (table' : List ℕ) → HeadersAnswer → Type 0
  Answered table' r = (r ≡ as_headers (total (take 3 lengths)) (setup_of (length table) ps s)) × IfSound (table' ≡ table_after table (get_or ps 2 [])) r

  pub setup_missing : length lengths < 3 → Answered table (HeadersAnswer.Refused 4)
  unfolding setup_of
  setup_missing h = (rw (lt-ltb (length ps) 3 (omega (arith, packets_many lengths packets))), tt)

  module _ (h : 3 ≤ length lengths) (part : List ℕ) (e : part ≡ take (get_or lengths 2 0) (drop (get_or lengths 0 0 + get_or lengths 1 0) packets)) where
    part_is : part ≡ get_or ps 2 []
    part_is = e ∙ sym (third_is lengths packets h)

    setup_is : setup_of (length table) ps s ≡ after (setup_outcome (length table) part) (λ _ _. got s 0)
    unfolding setup_of
    setup_is = rw (le-ltb (length ps) 3 (omega (arith, packets_many lengths packets, h))) (ap (λ (p : List ℕ). after (setup_outcome (length table) p) (λ _ _. got s 0)) (sym part_is))

    got_setup : (o : Outcome Setup) → SetupAnswer.Accepted ≡ as_setup_answer o → after o (λ _ _. got s 0) ≡ got s 0
    got_setup (got u d) a = refl
    got_setup (refused k d) a = let y : ◌≡◌ {A = ℕ} 0 1 = cc in absurd (omega arith)

    no_setup : (o : Outcome Setup) {k d : ℕ} → SetupAnswer.Refused k d ≡ as_setup_answer o → after o (λ _ _. got s 0) ≡ refused k d
    no_setup (got u d) a = let y : ◌≡◌ {A = ℕ} 0 1 = cc in absurd (omega arith)
    no_setup (refused k d) {k = k'} {d = d'} a = let x : k ≡ k' = cc in let y : d ≡ d' = cc in λ i. refused (x i) (y i)

    pub setup_sound : {a : SetupAnswer} (table' : List ℕ) → (a ≡ as_setup_answer (setup_outcome (length table) part)) × (table' ≡ table_after table part) → a ≡ SetupAnswer.Accepted
        → Answered table' (HeadersAnswer.Sound s (get_or lengths 0 0 + get_or lengths 1 0 + get_or lengths 2 0))
    setup_sound table' r a = (
      (λ i. HeadersAnswer.Sound s (sym (total_three lengths h).0 i)) ∙ sym (ap (as_headers (total (take 3 lengths))) (setup_is ∙ got_setup (setup_outcome (length table) part) (sym a ∙ r.0))),
      r.1 ∙ ap (table_after table) part_is,
    )

    pub setup_refused : {a : SetupAnswer} {k d : ℕ} (table' : List ℕ) → (a ≡ as_setup_answer (setup_outcome (length table) part)) × (table' ≡ table_after table part) → a ≡ SetupAnswer.Refused k d
        → Answered table' (HeadersAnswer.Refused k)
    setup_refused table' r a = (sym (ap (as_headers (total (take 3 lengths))) (setup_is ∙ no_setup (setup_outcome (length table) part) (sym a ∙ r.0))), tt)

-- ---- both headers
module _ (lengths packets table : List ℕ) where
  abbrev all : List (List ℕ)
  all = packets_in lengths packets

  abbrev Read : (table' : List ℕ) → HeadersAnswer → Type 0
  Read table' r = (r ≡ as_headers (total (take 3 lengths)) (headers_of (length table) all)) × IfSound (table' ≡ table_after table (get_or all 2 [])) r

  pub headers_missing : length lengths ≡ 0 → Read table (HeadersAnswer.Refused 4)
  unfolding headers_of
  headers_missing h = (rw (eq-eqb (length all) 0 (packets_many lengths packets ∙ h)), tt)

  module _ (h : length lengths ≡ 0 → ⊥) (part : List ℕ) (e : part ≡ take (get_or lengths 0 0) packets) where
    headers_are : headers_of (length table) all ≡ after (identification part 0) (λ s _. setup_of (length table) all s)
    unfolding headers_of
    headers_are =
        rw (ne_eqb (length all) 0 (λ z. h (sym (packets_many lengths packets) ∙ z)))
        (ap (λ (p : List ℕ). after (identification p 0) (λ s _. setup_of (length table) all s)) (first_is lengths packets (some _ h) ∙ sym e))

    got_session : (o : Outcome Session) {s : Session} → IdentificationAnswer.Accepted s ≡ as_identification o → after o (λ s _. setup_of (length table) all s) ≡ setup_of (length table) all s
    got_session (got u d) {s} a = let x : u ≡ s = cc in ap (setup_of (length table) all) x
    got_session (refused k d) a = let y : ◌≡◌ {A = ℕ} 0 1 = cc in absurd (omega arith)

    no_session : (o : Outcome Session) {k d : ℕ} → IdentificationAnswer.Refused k d ≡ as_identification o → after o (λ s _. setup_of (length table) all s) ≡ refused k d
    no_session (got u d) a = let y : ◌≡◌ {A = ℕ} 0 1 = cc in absurd (omega arith)
    no_session (refused k d) {k = k'} {d = d'} a = let x : k ≡ k' = cc in let y : d ≡ d' = cc in λ i. refused (x i) (y i)

    pub headers_refused : {a : IdentificationAnswer} {k d : ℕ} → a ≡ as_identification (identification part 0) → a ≡ IdentificationAnswer.Refused k d → Read table (HeadersAnswer.Refused k)
    headers_refused r a = (sym (ap (as_headers (total (take 3 lengths))) (headers_are ∙ no_session (identification part 0) (sym a ∙ r))), tt)

    pub headers_then : {a : IdentificationAnswer} {s : Session} → a ≡ as_identification (identification part 0) → a ≡ IdentificationAnswer.Accepted s
        → (table' : List ℕ) (r : HeadersAnswer) → (r ≡ as_headers (total (take 3 lengths)) (setup_of (length table) all s)) × IfSound (table' ≡ table_after table (get_or all 2 [])) r → Read table' r
    headers_then r a table' w q = (q.0 ∙ sym (ap (as_headers (total (take 3 lengths))) (headers_are ∙ got_session (identification part 0) (sym a ∙ r))), q.1)
