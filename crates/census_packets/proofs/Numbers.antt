-- The numbers by which headers and frame packets are refused all have a place in the report; what sound headers say. Assumes nothing.
use Prim.Native.Nat.{ℕ, ◌≤◌}
use native.Mathlib.Omega.{arith}
use mathlib.Core.Path.{◌≡◌, refl, sym, subst}
use mathlib.Core.Bool.{Bool, true, false, ◌||◌}
use mathlib.Core.List.{List, [], ◌∷◌}
use lib.Dec.{eqb, ltb}
use lib.ListN.{length, get_or}
use borrow.Author.Tests.{eqb-true, ltb-false}
use Rattle.bitstream.specs.Reading.{Outcome, got, refused, after, choose}
use Rattle.bitstream.specs.Lists.{among}
use Rattle.bitstream.proofs.Fields.{no_mix}
use Rattle.headers.specs.declared.Session.{Session}
use Rattle.headers.specs.Identification.{identification}
use Rattle.headers.specs.Fits.{session_fits}
use Rattle.headers.specs.Sizes.{format}
use Rattle.headers.proofs.Groups.{identification_refuses}
use Rattle.headers.proofs.Accepted.{accepted_fits}
use Rattle.setup.specs.Header.{Setup, setup_header}
use Rattle.setup.specs.Table.{table_bytes, setup_outcome, table_after, held_setup}
use Rattle.setup.proofs.Laws.{setup_refuses, accepted_table, accepted_reads}
use Rattle.frame_packet.proofs.Laws.{packet_numbers, packet_refuses}
use Rattle.reading.specs.Answer.{Asked, read, answer_for}
use Rattle.reading.proofs.Places.{read_refused}
use Rattle.census_packets.specs.Recording.{setup_of, headers_of}
use Rattle.report.specs.Report.{Numbered}
use Rattle.census_packets.specs.Inner.{AllNumbered}

-- what holds of each number of a list holds of a number among them
unfoldable pub Every : (ℕ → Type 0) → List ℕ → Type 0
Every P [] = Unit {0}
Every P (x ∷ l) = P x × Every P l

pub every : (P : ℕ → Type 0) (l : List ℕ) → Every P l → (k : ℕ) → among l k ≡ true → P k
unfolding among Every
every P [] h k a = let y : ◌≡◌ {A = ℕ} 0 1 = cc in absurd (omega arith)
every P (x ∷ l) h k a = go (every P l h.1 k) (eqb x k) refl a
  where
    go : (among l k ≡ true → P k) → (b : Bool) → eqb x k ≡ b → (b || among l k) ≡ true → P k
    go rest true e a = subst P (eqb-true x k e) h.0
    go rest false e a = rest a

-- ---- a frame packet
module _ (s : Session) (table packet : List ℕ) where
  pub read_numbered : {k e : ℕ} → read s table packet ≡ refused k e → Numbered k
  unfolding Every
  read_numbered {k} {e} r =
      read_refused s packet table (λ a _. subst Numbered a (omega arith, omega arith)) (λ a _ _. subst Numbered a (omega arith, omega arith))
      (λ setup q. every Numbered packet_numbers all_numbered k (packet_refuses (format s) s.fields.fmbw s.fields.fmbh setup.trees s.references packet k e q)) r
    where
      all_numbered : Every Numbered packet_numbers
      all_numbered = ((omega arith, omega arith), ((omega arith, omega arith), ((omega arith, omega arith), ((omega arith, omega arith), ((omega arith, omega arith), ((omega arith, omega arith), tt))))))

  pub answer_numbered : (o : Outcome Asked) → read s table packet ≡ o → AllNumbered (answer_for s o).verdict
  answer_numbered (got a e) r = tt
  answer_numbered (refused k e) r = read_numbered r

-- ---- headers
module _ (room : ℕ) (packets : List (List ℕ)) where
  -- what sound headers say
  pub record Sounds (s : Session) : Type 0 where
    pub fits : session_fits s ≡ true
    pub three : 3 ≤ length packets
    pub setup : Setup
    pub place : ℕ
    pub accepted : setup_outcome room (get_or packets 2 []) ≡ got setup place

  four : {k e : ℕ} → ◌≡◌ {A = Outcome Session} (refused 4 0) (refused k e) → Numbered k
  four {k} r = let z : 4 ≡ k = cc in subst Numbered z (omega arith, omega arith)

  setup_number : (o : Outcome Setup) → ((k e : ℕ) → o ≡ refused k e → Numbered k) → (s : Session) {k e : ℕ} → after o (λ _ _. got s 0) ≡ refused k e → Numbered k
  setup_number (got u d) h s r = no_mix r
  setup_number (refused k d) h s {k = j} r = let z : k ≡ j = cc in subst Numbered z (h k d refl)

  outcome_number : {k e : ℕ} → setup_outcome room (get_or packets 2 []) ≡ refused k e → Numbered k
  unfolding setup_outcome Every
  outcome_number {k} {e} r = go (eqb room table_bytes) r
    where
      go : (b : Bool) → choose b (setup_header (get_or packets 2 []) 0) (refused 1 0) ≡ refused k e → Numbered k
      go true r = every Numbered (2 ∷ 4 ∷ 7 ∷ []) ((omega arith, omega arith), ((omega arith, omega arith), ((omega arith, omega arith), tt))) k (setup_refuses.by (get_or packets 2 []) 0 k e r)
      go false r = let z : 1 ≡ k = cc in subst Numbered z (omega arith, omega arith)

  setup_of_number : (s : Session) {k e : ℕ} → setup_of room packets s ≡ refused k e → Numbered k
  unfolding setup_of
  setup_of_number s {k} {e} r = go (ltb (length packets) 3) r
    where
      go : (b : Bool) → choose b (refused 4 0) (after (setup_outcome room (get_or packets 2 [])) (λ _ _. got s 0)) ≡ refused k e → Numbered k
      go true r = four r
      go false r = setup_number (setup_outcome room (get_or packets 2 [])) (λ k e q. outcome_number q) s r

  pub headers_number : {k e : ℕ} → headers_of room packets ≡ refused k e → Numbered k
  unfolding headers_of Every
  headers_number {k} {e} r = go (eqb (length packets) 0) r
    where
      by : (o : Outcome Session) → identification (get_or packets 0 []) 0 ≡ o → after o (λ s _. setup_of room packets s) ≡ refused k e → Numbered k
      by (got s d) q r = setup_of_number s r
      by (refused j d) q r =
          let z : j ≡ k = cc in
          subst Numbered z (every Numbered (2 ∷ 3 ∷ 4 ∷ 5 ∷ 6 ∷ []) ((omega arith, omega arith), ((omega arith, omega arith), ((omega arith, omega arith), ((omega arith, omega arith), ((omega arith, omega arith), tt))))) j (identification_refuses.by (get_or packets 0 []) 0 j d q))

      go : (b : Bool) → choose b (refused 4 0) (after (identification (get_or packets 0 []) 0) (λ s _. setup_of room packets s)) ≡ refused k e → Numbered k
      go true r = four r
      go false r = by (identification (get_or packets 0 []) 0) refl r

  pub headers_sound : {s : Session} {e : ℕ} → headers_of room packets ≡ got s e → Sounds s
  unfolding headers_of setup_of
  headers_sound {s} {e} r = go (eqb (length packets) 0) r
    where
      third : (u : Session) {d : ℕ} → identification (get_or packets 0 []) 0 ≡ got u d → (b : Bool) → ltb (length packets) 3 ≡ b → (o : Outcome Setup) → setup_outcome room (get_or packets 2 []) ≡ o
          → choose b (refused 4 0) (after o (λ _ _. got u 0)) ≡ got s e → Sounds s
      third u q true t o w r = no_mix (sym r)
      third u q false t (refused j f) w r = no_mix (sym r)
      third u q false t (got v f) w r =
          let z : u ≡ s = cc in
          record { fits = subst (λ (x : Session). session_fits x ≡ true) z (accepted_fits (get_or packets 0 []) 0 q).0; three = ltb-false (length packets) 3 t; setup = v; place = f; accepted = w }

      by : (o : Outcome Session) → identification (get_or packets 0 []) 0 ≡ o → after o (λ s _. choose (ltb (length packets) 3) (refused 4 0) (after (setup_outcome room (get_or packets 2 [])) (λ _ _. got s 0))) ≡ got s e → Sounds s
      by (got u d) q r = third u q (ltb (length packets) 3) refl (setup_outcome room (get_or packets 2 [])) refl r
      by (refused j d) q r = no_mix (sym r)

      go : (b : Bool) → choose b (refused 4 0) (after (identification (get_or packets 0 []) 0) (λ s _. choose (ltb (length packets) 3) (refused 4 0) (after (setup_outcome room (get_or packets 2 [])) (λ _ _. got s 0)))) ≡ got s e → Sounds s
      go true r = no_mix (sym r)
      go false r = by (identification (get_or packets 0 []) 0) refl r

-- an accepted setup call leaves a table memory that holds its setup
pub setup_held : (old packet : List ℕ) {s : Setup} {e : ℕ} → setup_outcome (length old) packet ≡ got s e → held_setup (table_after old packet) ≡ got s e
unfolding setup_outcome held_setup
setup_held old packet {s} {e} h = go (eqb (length old) table_bytes) refl h
  where
    go : (b : Bool) → eqb (length old) table_bytes ≡ b → choose b (setup_header packet 0) (refused 1 0) ≡ got s e → held_setup (table_after old packet) ≡ got s e
    go true t r = let l = eqb-true _ _ t in rw (accepted_table old packet l r) (accepted_reads old packet l r)
    go false t r = no_mix (sym r)
