-- The frame call by the lengths of its lists, and its session's list. Assumes nothing.
use Prim.Native.Nat.{ℕ, ◌<◌}
use native.Mathlib.Omega.{arith}
use mathlib.Core.Path.{◌≡◌, sym, ap, ◌∙◌}
use mathlib.Core.Bool.{not}
use mathlib.Core.List.{List}
use lib.Dec.{eqb}
use lib.ListN.{length, get_or, set, length-set}
use lib.Seq.{get_or-set_same, get_or-set_other}
use borrow.Author.Tests.{eq-eqb, ne_eqb}
use Rattle.headers.specs.declared.Session.{Session}
use Rattle.frame_header.specs.declared.Kind.{Kind}
use Rattle.frame_header.specs.declared.Kind.TheVariants.{Intra, Inter, Repeat}
use Rattle.ways.specs.Ways.{first_way}
use Rattle.reading.specs.Answer.{session_after}
use Rattle.asked_frame.specs.Answer.{Done, state}
use Rattle.calls.specs.Call.{Call, by_rules}
use Rattle.session_list.specs.List.{Answered, answers, session_of, lists_number}
use Rattle.frame_c.specs.Face.{frame_gives, frame_call}
use Rattle.frame_lists.specs.FrameLists.{session_numbers, verdict_returned}

-- a frame call that is made on the session s of the list, and one whose lists are refused
module _ (session old golden previous : List ℕ) (c : Call) {k : ℕ} (e : k ≡ lists_number 8 session (length old)) where
  pub frame_made : k ≡ 0 → {s : Session} {d : Done} {a : Answered} → s ≡ session_of session
      → d ≡ by_rules first_way (state s golden previous) c → a ≡ verdict_returned session d.answer.header d.answer.session d.answer.verdict
      → frame_gives a d.new d.memory ≡ frame_call session old golden previous c
  unfolding frame_call
  frame_made z f h g = rw (eq-eqb _ 0 (sym e ∙ z), g, h, f)

  pub frame_unmade : (k ≡ 0 → ⊥) → frame_gives (answers k session old) c.new c.memory ≡ frame_call session old golden previous c
  unfolding frame_call
  frame_unmade z = rw (ne_eqb _ 0 (λ w. z (e ∙ w))) (ap (λ (m : ℕ). frame_gives (answers m session old) c.new c.memory) e)

-- the numbers of a session after a frame say the session that the rules hand on
module _ (l : List ℕ) (h : length l ≡ 19) where
  module _ (a b c : ℕ) where
    abbrev stored : List ℕ
    stored = set (set (set l 16 a) 17 b) 18 c

    other : (i : ℕ) → i < 16 → get_or stored i 0 ≡ get_or l i 0
    other i k =
        get_or-set_other (set (set l 16 a) 17 b) 18 i c 0 (λ e. omega arith) ∙ get_or-set_other (set l 16 a) 17 i b 0 (λ e. omega arith)
        ∙ get_or-set_other l 16 i a 0 (λ e. omega arith)

    at_16 : get_or stored 16 0 ≡ a
    at_16 = get_or-set_other (set (set l 16 a) 17 b) 18 16 c 0 (λ e. omega arith) ∙ get_or-set_other (set l 16 a) 17 16 b 0 (λ e. omega arith) ∙ get_or-set_same l 16 a 0 (omega arith)

    at_17 : get_or stored 17 0 ≡ b
    at_17 = get_or-set_other (set (set l 16 a) 17 b) 18 17 c 0 (λ e. omega arith) ∙ get_or-set_same (set l 16 a) 17 b 0 (omega (arith, length-set l 16 a))

    at_18 : get_or stored 18 0 ≡ c
    at_18 = get_or-set_same (set (set l 16 a) 17 b) 18 c 0 (omega (arith, length-set (set l 16 a) 17 b, length-set l 16 a))

    pub stored_says : session_of stored ≡ record { fields = (session_of l).fields; references = not (eqb a 0); key_frames = b; others = c }
    unfolding session_of
    stored_says =
        rw (
          other 0 (omega arith),
          other 1 (omega arith),
          other 2 (omega arith),
          other 3 (omega arith),
          other 4 (omega arith),
          other 5 (omega arith),
          other 6 (omega arith),
          other 7 (omega arith),
          other 8 (omega arith),
          other 9 (omega arith),
          other 10 (omega arith),
          other 11 (omega arith),
          other 12 (omega arith),
          other 13 (omega arith),
          other 14 (omega arith),
          other 15 (omega arith),
          at_16,
          at_17,
          at_18,
        )

  pub session_handed : (kind : Kind) → let s = session_after kind (session_of l) in session_of (session_numbers kind s l) ≡ s
  unfolding session_of session_after
  session_handed Intra = stored_says 1 _ _
  session_handed Inter = stored_says (get_or l 16 0) _ _
  session_handed Repeat = stored_says (get_or l 16 0) _ _
