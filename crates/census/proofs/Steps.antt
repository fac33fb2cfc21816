-- The headers, the lengths, the report and the scratch of a census. Assumes nothing.
use Prim.Native.Nat.{ℕ, ◌+◌, ◌-◌, ◌≤◌}
use native.Mathlib.Omega.{arith}
use mathlib.Core.Path.{◌≡◌, refl, sym, ap, ◌∙◌, subst}
use mathlib.Core.Bool.{true, false}
use mathlib.Core.List.{List, [], ◌∷◌}
use lib.ListN.{length, get_or, take, drop, length-drop}
use lib.Seq.{drop-drop}
use borrow.Author.Tests.{eq-eqb, ne_eqb}
use Rattle.bitstream.specs.Reading.{Outcome, got, refused}
use Rattle.headers.specs.declared.Session.{Session}
use Rattle.headers.specs.Fits.{session_fits}
use Rattle.setup.specs.Table.{held_setup, table_after}
use Rattle.setup.specs.declared.SetupRead.{SetupRead}
use Rattle.setup.specs.Loaded.{as_setup_read}
use Rattle.reading.specs.Answer.{read}
use Rattle.work_memory.specs.Memory.{Memory}
use Rattle.packet_list.specs.Packets.{packets_in, total}
use Rattle.packet_list.proofs.Cut.{packets_many}
use Rattle.report.specs.declared.Running.{Running}
use Rattle.report.specs.Report.{plus, refusal_adds}
use Rattle.report.specs.Running.{Runs, sum_number, report_after}
use Rattle.census_packets.specs.declared.HeadersAnswer.{HeadersAnswer}
use Rattle.census_packets.specs.Recording.{Lent, lent, outcome_lent, packets_add, headers_of, adds_by, recording_adds}
use Rattle.census_packets.specs.Inner.{as_headers, IfSound}
use Rattle.census_packets.proofs.Headers.{total_three}
use Rattle.census_packets.proofs.Numbers.{Sounds, headers_sound, setup_held}
use Rattle.census_packets.proofs.Rules.{hold, adds_read, adds_wrong}
use Rattle.census.specs.Call.{Loads, Loaded, count_number, count_report}

-- ---- a table memory that holds a setup is loaded
pub loads : (table : List ℕ) {r : SetupRead} → Loads table → r ≡ as_setup_read (held_setup table) → Loaded table r.setup
loads table h e = (h.0, h.1, h.2, ap (λ (x : SetupRead). x.setup) (e ∙ ap as_setup_read h.2))

-- ---- the packets behind the headers
pub behind : (lengths packets : List ℕ) → 3 ≤ length lengths → drop 3 (packets_in lengths packets) ≡ packets_in (drop 3 lengths) (drop (total (take 3 lengths)) packets)
unfolding packets_in total
behind [] packets h = absurd (omega arith)
behind (a ∷ []) packets h = absurd (omega arith)
behind (a ∷ b ∷ []) packets h = absurd (omega arith)
behind (a ∷ b ∷ c ∷ l) packets h =
    ap (packets_in l) (ap (drop c) (drop-drop b a packets) ∙ drop-drop c (a + b) packets ∙ ap (λ (k : ℕ). drop k packets) (add_three a b c))
  where
    add_three : (a b c : ℕ) → a + b + c ≡ a + (b + (c + 0))
    add_three a b c = omega arith

-- ---- the lengths that are lent
module _ (l : Lent) (table lengths packets : List ℕ) (start : ℕ) (s : Session) (fits : session_fits s ≡ true) (running : Running) where
  abbrev ps : List (List ℕ)
  ps = packets_in (drop 3 lengths) (drop start packets)

  abbrev Adds : Running → Type 0
  Adds r = (y : List ℕ) → Runs running y → Runs r (plus y (packets_add (outcome_lent l table) s ps))

  pub by_read : hold l table s ≡ true → (r : Running) → ((y : List ℕ) → Runs running y → Runs r (plus y (packets_add (λ s p. read s table p) s ps))) → Adds r
  by_read h r q = λ y z. subst (λ (k : List ℕ). Runs r (plus y k)) (sym (adds_read l table ps s fits h)) (q y z)

  pub by_wrong : hold l table s ≡ false → (r : Running) → ((y : List ℕ) → Runs running y → Runs r (plus y (refusal_adds 1 (length lengths - 3)))) → Adds r
  by_wrong h r q = λ y z. subst (λ (k : List ℕ). Runs r (plus y k)) (sym (adds_wrong l table ps s fits h ∙ ap (refusal_adds 1) (packets_many (drop 3 lengths) (drop start packets) ∙ length-drop 3 lengths))) (q y z)

-- ---- the report
module _ (l : Lent) (packets : List (List ℕ)) (report : List ℕ) where
  abbrev adds : List ℕ
  adds = recording_adds l packets

  abbrev Ends : (k : ℕ) (report' : List ℕ) → Type 0
  Ends k report' = (k ≡ count_number l packets report) × (report' ≡ count_report l packets report)

  pub ends_short : (length report ≡ 34 → ⊥) → Ends 1 report
  unfolding count_number count_report
  ends_short h = rw (ne_eqb (length report) 34 h) (refl, refl)

  ends_sum : length report ≡ 34 → (k : ℕ) (report' : List ℕ) → (k ≡ sum_number (plus report adds)) × (report' ≡ report_after (plus report adds) report) → Ends k report'
  unfolding count_number count_report
  ends_sum h k report' q = rw (eq-eqb (length report) 34 h) q

  module _ (h : length report ≡ 34) (sums : Running) (k : ℕ) (report' : List ℕ) (stored : (y : List ℕ) → Runs sums y → (k ≡ sum_number y) × (report' ≡ report_after y report)) where
    pub ends_refused : (j e : ℕ) → headers_of (length l.table) packets ≡ refused j e → Runs sums (plus report (refusal_adds j 1)) → Ends k report'
    unfolding recording_adds
    ends_refused j e r q = ends_sum h k report' (stored _ (subst (λ (o : Outcome Session). Runs sums (plus report (adds_by l packets o))) (sym r) q))

    pub ends_counted : (s : Session) (e : ℕ) → headers_of (length l.table) packets ≡ got s e → Runs sums (plus report (packets_add (outcome_lent l (table_after l.table (get_or packets 2 []))) s (drop 3 packets))) → Ends k report'
    unfolding recording_adds
    ends_counted s e r q = ends_sum h k report' (stored _ (subst (λ (o : Outcome Session). Runs sums (plus report (adds_by l packets o))) (sym r) q))

-- ---- the headers
pub headers_are : (place : ℕ) (o : Outcome Session) {k : ℕ} → HeadersAnswer.Refused k ≡ as_headers place o → (e : ℕ) × (o ≡ refused k e)
headers_are place (got s d) h = let y : ◌≡◌ {A = ℕ} 0 1 = cc in absurd (omega arith)
headers_are place (refused j d) {k} h = let z : j ≡ k = cc in (d, λ i. refused (z i) d)

pub sound_are : (place : ℕ) (o : Outcome Session) {s : Session} {at : ℕ} → HeadersAnswer.Sound s at ≡ as_headers place o → (e : ℕ) × (o ≡ got s e) × (at ≡ place)
sound_are place (got u d) {s} {at} h = let z : u ≡ s = cc in let y : at ≡ place = cc in (d, (λ i. got (z i) d), y)
sound_are place (refused j d) h = let y : ◌≡◌ {A = ℕ} 0 1 = cc in absurd (omega arith)

-- ---- what sound headers come to
module _ (lengths packets table : List ℕ) {r : HeadersAnswer} {s : Session} {start : ℕ} (e : r ≡ HeadersAnswer.Sound s start) (table' : List ℕ)
    (h : (r ≡ as_headers (total (take 3 lengths)) (headers_of (length table) (packets_in lengths packets))) × IfSound (table' ≡ table_after table (get_or (packets_in lengths packets) 2 [])) r) where
  abbrev all : List (List ℕ)
  all = packets_in lengths packets

  is_sound : (d : ℕ) × (headers_of (length table) all ≡ got s d) × (start ≡ total (take 3 lengths))
  is_sound = sound_are (total (take 3 lengths)) (headers_of (length table) all) (sym e ∙ h.0)

  sounds : Sounds (length table) all s
  sounds = headers_sound (length table) all is_sound.1

  table_is : table' ≡ table_after table (get_or all 2 [])
  table_is = subst (IfSound (table' ≡ table_after table (get_or all 2 []))) e h.1

  three : 3 ≤ length lengths
  three = omega (arith, sounds.three, packets_many lengths packets)

  pub start_fits : total lengths ≤ length packets → (session_fits s ≡ true) × Loads table' × (3 ≤ length lengths) × (start + total (drop 3 lengths) ≤ length packets)
  start_fits room =
      let z = total_three lengths three in
      (sounds.fits, (sounds.setup, sounds.place, ap held_setup table_is ∙ setup_held table (get_or all 2 []) sounds.accepted), three, omega (arith, z.0, z.1, is_sound.2, room))

  -- what was counted by the table memory that the headers left
  pub frames_are : (m : Memory) (golden previous new : List ℕ) (sums : Running) (report : List ℕ)
      → Runs sums (plus report (packets_add (outcome_lent (lent table' m golden previous new) table') s (packets_in (drop 3 lengths) (drop start packets))))
      → Runs sums (plus report (packets_add (outcome_lent (lent table m golden previous new) (table_after table (get_or all 2 []))) s (drop 3 all)))
  frames_are m golden previous new sums report q =
      subst (λ (t : List ℕ). Runs sums (plus report (packets_add (outcome_lent (lent table m golden previous new) t) s (drop 3 all)))) table_is
      (subst (λ (k : List (List ℕ)). Runs sums (plus report (packets_add (outcome_lent (lent table m golden previous new) table') s k))) (ap (λ (k : ℕ). packets_in (drop 3 lengths) (drop k packets)) is_sound.2 ∙ sym (behind lengths packets three)) q)
