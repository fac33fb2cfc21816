-- By which numbers the headers of a recording are refused: 1 to 7. Assumes nothing.
use Prim.Native.Nat.{ℕ, ◌≤◌}
use native.Mathlib.Omega.{arith}
use mathlib.Core.Path.{◌≡◌, refl, subst}
use mathlib.Core.Bool.{Bool, true, false}
use mathlib.Core.List.{List, [], ◌∷◌}
use lib.Dec.{eqb, ltb}
use lib.ListN.{length, get_or}
use Rattle.bitstream.specs.Reading.{Outcome, got, refused, after, choose}
use Rattle.bitstream.proofs.Fields.{no_mix}
use Rattle.headers.specs.declared.Session.{Session}
use Rattle.headers.specs.Identification.{identification}
use Rattle.headers.proofs.Groups.{identification_refuses}
use Rattle.setup.specs.Header.{Setup, setup_header}
use Rattle.setup.specs.Table.{table_bytes, setup_outcome}
use Rattle.setup.proofs.Laws.{setup_refuses}
use Rattle.census_packets.specs.Recording.{setup_of, headers_of}
use Rattle.census_packets.proofs.Numbers.{Every, every}

-- 1 for table memory, 2 to 6 for the identification header, 2, 4 and 7 for the setup header; 4 where one is missing
abbrev pub Few : ℕ → Type 0
Few k = (1 ≤ k) × (k ≤ 7)

identification_few : Every Few (2 ∷ 3 ∷ 4 ∷ 5 ∷ 6 ∷ [])
unfolding Every
identification_few = ((omega arith, omega arith), ((omega arith, omega arith), ((omega arith, omega arith), ((omega arith, omega arith), ((omega arith, omega arith), tt)))))

setup_few : Every Few (2 ∷ 4 ∷ 7 ∷ [])
unfolding Every
setup_few = ((omega arith, omega arith), ((omega arith, omega arith), ((omega arith, omega arith), tt)))

module _ (room : ℕ) (packets : List (List ℕ)) where
  four : {k e : ℕ} → ◌≡◌ {A = Outcome Session} (refused 4 0) (refused k e) → Few k
  four {k} r = let z : 4 ≡ k = cc in subst Few z (omega arith, omega arith)

  setup_number : (o : Outcome Setup) → ((k e : ℕ) → o ≡ refused k e → Few k) → (s : Session) {k e : ℕ} → after o (λ _ _. got s 0) ≡ refused k e → Few k
  setup_number (got u d) h s r = no_mix r
  setup_number (refused k d) h s {k = j} r = let z : k ≡ j = cc in subst Few z (h k d refl)

  outcome_number : {k e : ℕ} → setup_outcome room (get_or packets 2 []) ≡ refused k e → Few k
  unfolding setup_outcome
  outcome_number {k} {e} r = go (eqb room table_bytes) r
    where
      go : (b : Bool) → choose b (setup_header (get_or packets 2 []) 0) (refused 1 0) ≡ refused k e → Few k
      go true r = every Few (2 ∷ 4 ∷ 7 ∷ []) setup_few k (setup_refuses.by (get_or packets 2 []) 0 k e r)
      go false r = let z : 1 ≡ k = cc in subst Few z (omega arith, omega arith)

  setup_of_number : (s : Session) {k e : ℕ} → setup_of room packets s ≡ refused k e → Few k
  unfolding setup_of
  setup_of_number s {k} {e} r = go (ltb (length packets) 3) r
    where
      go : (b : Bool) → choose b (refused 4 0) (after (setup_outcome room (get_or packets 2 [])) (λ _ _. got s 0)) ≡ refused k e → Few k
      go true r = four r
      go false r = setup_number (setup_outcome room (get_or packets 2 [])) (λ k e q. outcome_number q) s r

  pub headers_few : {k e : ℕ} → headers_of room packets ≡ refused k e → Few k
  unfolding headers_of
  headers_few {k} {e} r = go (eqb (length packets) 0) r
    where
      by : (o : Outcome Session) → identification (get_or packets 0 []) 0 ≡ o → after o (λ s _. setup_of room packets s) ≡ refused k e → Few k
      by (got s d) q r = setup_of_number s r
      by (refused j d) q r =
          let z : j ≡ k = cc in
          subst Few z (every Few (2 ∷ 3 ∷ 4 ∷ 5 ∷ 6 ∷ []) identification_few j (identification_refuses.by (get_or packets 0 []) 0 j d q))

      go : (b : Bool) → choose b (refused 4 0) (after (identification (get_or packets 0 []) 0) (λ s _. setup_of room packets s)) ≡ refused k e → Few k
      go true r = four r
      go false r = by (identification (get_or packets 0 []) 0) refl r
