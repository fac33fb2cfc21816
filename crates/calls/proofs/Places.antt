-- Where the place of a refusal lies, and which refusals have one. Assumes nothing.
use Prim.Native.Nat.{ℕ, ◌≤◌}
use native.Mathlib.Omega.{arith}
use mathlib.Core.Path.{◌≡◌, refl, sym, ◌∙◌}
use mathlib.Core.Bool.{Bool, true, false, ◌||◌, false≢true}
use mathlib.Core.List.{List, [], ◌∷◌}
use lib.Dec.{eqb}
use borrow.Author.Tests.{eqb-true}
use Rattle.bitstream.specs.Bits.{bits}
use Rattle.bitstream.specs.Lists.{among}
use Rattle.bitstream.specs.Reading.{refused, choose}
use Rattle.bitstream.proofs.Inside.{place_inside}
use Rattle.headers.proofs.Groups.{identification_inside, identification_refuses}
use Rattle.headers.specs.Fits.{session_fits}
use Rattle.headers.specs.Sizes.{format}
use Rattle.setup.specs.Header.{setup_header}
use Rattle.setup.specs.Table.{table_bytes, setup_outcome}
use Rattle.setup.proofs.Laws.{setup_inside, setup_refuses}
use Rattle.frame_packet.proofs.Laws.{packet_numbers, packet_inside, packet_refuses}
use Rattle.reading.specs.Answer.{read}
use Rattle.reading.proofs.Places.{read_refused}
use Rattle.asked_frame.specs.Answer.{State}
use Rattle.calls.specs.Call.{Call, lengths_hold, outcome_of}
use Rattle.calls.specs.Places.{inside_numbers, Placed, Places}

-- each number of a list is one of m
abbrev Each : (m l : List ℕ) → Type 0
Each m [] = Unit {0}
Each m (x ∷ l) = (among m x ≡ true) × Each m l

among_in : (m l : List ℕ) (k : ℕ) → Each m l → among l k ≡ true → among m k ≡ true
unfolding among
among_in m [] k h a = absurd (false≢true a)
among_in m (x ∷ l) k h a = go (eqb x k) refl a (among_in m l k h.1)
  where
    go : (b : Bool) → eqb x k ≡ b → (b || among l k) ≡ true → (among l k ≡ true → among m k ≡ true) → among m k ≡ true
    go true q r f = rw (← eqb-true x k q) h.0
    go false q r f = f r

module _ (p others : List ℕ) {k e : ℕ} where
  -- a refusal found inside a packet
  inside_placed : e ≤ bits p → among inside_numbers k ≡ true → Placed p others k e
  inside_placed h a = record { inside = h; none = λ b. absurd (false≢true (sym b ∙ a)); known = λ b. absurd (false≢true (sym b ∙ a)) }

  -- one that has no place
  placeless : 0 ≡ e → among others k ≡ true → Placed p others k e
  placeless z a = record { inside = rw (← z) (omega arith); none = λ b. sym z; known = λ b. a }

setup_placed : (room : ℕ) (p : List ℕ) (k e : ℕ) → setup_outcome room p ≡ refused k e → Placed p (1 ∷ []) k e
unfolding setup_outcome among
setup_placed room p k e r = go (eqb room table_bytes) r
  where
    go : (b : Bool) → choose b (setup_header p 0) (refused 1 0) ≡ refused k e → Placed p (1 ∷ []) k e
    go true q = inside_placed p (1 ∷ []) (place_inside setup_inside p k e q) (among_in inside_numbers (2 ∷ 4 ∷ 7 ∷ []) k (refl, (refl, (refl, tt))) (setup_refuses.by p 0 k e q))
    go false q = let z : 1 ≡ k = cc in let y : 0 ≡ e = cc in placeless p (1 ∷ []) y (rw (← z) refl)

frame_placed : (st : State) (c : Call) (k e : ℕ) → outcome_of st c ≡ refused k e → Placed c.packet (1 ∷ 8 ∷ 17 ∷ []) k e
unfolding outcome_of among
frame_placed st c k e r = go (session_fits st.session) (lengths_hold st c) r
  where
    by_number : (n : ℕ) → among (1 ∷ 8 ∷ 17 ∷ []) n ≡ true → n ≡ k → 0 ≡ e → Placed c.packet (1 ∷ 8 ∷ 17 ∷ []) k e
    by_number n a z y = placeless c.packet (1 ∷ 8 ∷ 17 ∷ []) y (rw (← z) a)

    go : (b d : Bool) → choose b (choose d (read st.session c.table c.packet) (refused 1 0)) (refused 8 0) ≡ refused k e → Placed c.packet (1 ∷ 8 ∷ 17 ∷ []) k e
    go false d q = let z : 8 ≡ k = cc in let y : 0 ≡ e = cc in by_number 8 refl z y
    go true false q = let z : 1 ≡ k = cc in let y : 0 ≡ e = cc in by_number 1 refl z y
    go true true q =
        read_refused st.session c.packet c.table (λ z y. by_number 8 refl z y) (λ z y u. by_number 17 refl z y)
        (λ setup h.
        inside_placed c.packet (1 ∷ 8 ∷ 17 ∷ []) (packet_inside (format st.session) st.session.fields.fmbw st.session.fields.fmbh setup.trees st.session.references c.packet k e h)
        (among_in inside_numbers packet_numbers k (refl, (refl, (refl, (refl, (refl, (refl, tt)))))) (packet_refuses (format st.session) st.session.fields.fmbw st.session.fields.fmbh setup.trees st.session.references c.packet k e h)))
        q

pub places_hold : Places
unfolding among
places_hold = record {
  of_identification = λ p k e r.
      inside_placed p [] (place_inside identification_inside p k e r) (among_in inside_numbers (2 ∷ 3 ∷ 4 ∷ 5 ∷ 6 ∷ []) k (refl, (refl, (refl, (refl, (refl, tt))))) (identification_refuses.by p 0 k e r));
  of_setup = setup_placed;
  of_frame = frame_placed;
}
