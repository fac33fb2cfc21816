-- The lists that a call leaves say session and names for the next call. Assumes nothing.
use Prim.Native.Nat.{ℕ, ◌<◌}
use native.Mathlib.Omega.{arith}
use mathlib.Core.Path.{◌≡◌, refl, sym, ap, ◌∙◌}
use mathlib.Core.Bool.{Bool, true, false, not, ◌&&◌}
use mathlib.Core.List.{List, [], ◌∷◌}
use lib.Dec.{eqb}
use lib.ListN.{length, get_or, set, length-set}
use lib.Seq.{get_or-set_same, get_or-set_other}
use borrow.Author.Tests.{eqb-true, eq-eqb}
use Rattle.bitstream.specs.Reading.{choose}
use Rattle.headers.specs.declared.Fields.{Fields}
use Rattle.headers.specs.declared.Session.{Session}
use Rattle.session_list.specs.List.{session_of}
use Rattle.ways.specs.Ways.{first_way}
use Rattle.work_memory.specs.Memory.{Memory}
use Rattle.asked_frame.specs.Answer.{Way}
use Rattle.calls.specs.Call.{Call, outcome_of, by_rules}
use Rattle.packet_list.specs.Packets.{packets_in}
use Rattle.shot_packets.specs.Play.{Shot, state_of, call_of, after, one_more, played}
use Rattle.shot_packets.proofs.Rules.{answer_fields}
use Rattle.opening.specs.Call.{ShotCall, shot_call, shot_number}
use Rattle.shot.specs.Call.{ShotDone, start_of, ended, unchanged, by_shot}
use Rattle.shot_c.specs.Face.{names_in, reference_number, session_numbers, ShotReturned, done_returned, shot_face, ListsSay}

-- ---- packets change no field of the session
played_fields : (way : Way) (table : List ℕ) (h : Shot) (ps : List (List ℕ)) → (played (by_rules way) table h ps).session.fields ≡ h.session.fields
unfolding played one_more by_rules
played_fields way table h [] = refl
played_fields way table h (p ∷ ps) =
    played_fields way table (after h (by_rules way (state_of h) (call_of table h p))) ps ∙ answer_fields h.session (outcome_of (state_of h) (call_of table h p))

-- ---- a session's list whose last three numbers are set
module _ (l : List ℕ) (h : length l ≡ 19) where
  module _ (a b c : ℕ) where
    abbrev stored : List ℕ
    stored = set (set (set l 16 a) 17 b) 18 c

    other : (i : ℕ) → i < 16 → get_or stored i 0 ≡ get_or l i 0
    other i k =
        get_or-set_other (set (set l 16 a) 17 b) 18 i c 0 (λ e. omega arith) ∙ get_or-set_other (set l 16 a) 17 i b 0 (λ e. omega arith)
        ∙ get_or-set_other l 16 i a 0 (λ e. omega arith)

    at_16 : get_or stored 16 0 ≡ a
    at_16 = get_or-set_other (set (set l 16 a) 17 b) 18 16 c 0 (λ e. omega arith) ∙ get_or-set_other (set l 16 a) 17 16 b 0 (λ e. omega arith) ∙ get_or-set_same l 16 a 0 (omega arith)

    at_17 : get_or stored 17 0 ≡ b
    at_17 = get_or-set_other (set (set l 16 a) 17 b) 18 17 c 0 (λ e. omega arith) ∙ get_or-set_same (set l 16 a) 17 b 0 (omega (arith, length-set l 16 a))

    at_18 : get_or stored 18 0 ≡ c
    at_18 = get_or-set_same (set (set l 16 a) 17 b) 18 c 0 (omega (arith, length-set (set l 16 a) 17 b, length-set l 16 a))

    stored_says : session_of stored ≡ record { fields = (session_of l).fields; references = not (eqb a 0); key_frames = b; others = c }
    unfolding session_of
    stored_says =
        rw (
          other 0 (omega arith),
          other 1 (omega arith),
          other 2 (omega arith),
          other 3 (omega arith),
          other 4 (omega arith),
          other 5 (omega arith),
          other 6 (omega arith),
          other 7 (omega arith),
          other 8 (omega arith),
          other 9 (omega arith),
          other 10 (omega arith),
          other 11 (omega arith),
          other 12 (omega arith),
          other 13 (omega arith),
          other 14 (omega arith),
          other 15 (omega arith),
          at_16,
          at_17,
          at_18,
        )

  -- the reference number says what it is made for
  reference_says : (r : Bool) (old : ℕ) → not (eqb (reference_number r old) 0) ≡ r
  reference_says false old = refl
  reference_says true old = go (eqb old 0) refl
    where
      go : (b : Bool) → eqb old 0 ≡ b → not (eqb (choose b 1 old) 0) ≡ true
      go true e = refl
      go false e = ap not e

  list_says : (s : Session) → s.fields ≡ (session_of l).fields → session_of (session_numbers s l) ≡ s
  list_says s e =
      stored_says (reference_number s.references (get_or l 16 0)) s.key_frames s.others
      ∙ (λ i. record { fields = sym e i; references = reference_says s.references (get_or l 16 0) i; key_frames = s.key_frames; others = s.others })

-- ---- the call
module _ (session names lengths joined table : List ℕ) (m : Memory) (first second third answers : List ℕ) (hs : length session ≡ 19) (hn : length names ≡ 2) where
  abbrev c : ShotCall
  c = shot_call (session_of session) (names_in names) lengths joined table m first second third answers

  made : shot_face session names lengths joined table m first second third answers ≡ done_returned session names (by_shot first_way c)
  unfolding shot_face
  made = rw (eq-eqb _ _ hs, eq-eqb _ _ hn)

  abbrev Says : ShotDone → Type 0
  Says d = let r = (done_returned session names d).lists in (session_of r.session ≡ d.answer.session) × (names_in r.names ≡ d.answer.names)

  says : Says (by_shot first_way c)
  unfolding by_shot
  says = go (eqb (shot_number c) 0)
    where
      go : (b : Bool) → Says (choose b (ended (played (by_rules first_way) table (start_of c) (packets_in lengths joined))) (unchanged (shot_number c) c))
      go true = (list_says session hs (played (by_rules first_way) table (start_of c) (packets_in lengths joined)).session (played_fields first_way table (start_of c) (packets_in lengths joined)), refl)
      go false = (refl, refl)

pub lists_say : ListsSay
lists_say session names lengths joined table m first second third answers hs hn =
    let e = made session names lengths joined table m first second third answers hs hn in
    let t = says session names lengths joined table m first second third answers hs hn in
    (ap (λ (r : ShotReturned). session_of r.lists.session) e ∙ t.0, ap (λ (r : ShotReturned). names_in r.lists.names) e ∙ t.1)
