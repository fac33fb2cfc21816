-- The lists after a frame. Assumes nothing.
use Prim.Native.Nat.{ℕ}
use mathlib.Core.Path.{◌≡◌}
use mathlib.Core.List.{List}
use lib.ListN.{get_or, set}
use Rattle.headers.specs.declared.Session.{Session}
use Rattle.frame_header.specs.declared.Header.{Header}
use Rattle.reading.specs.declared.Verdict.{Verdict}
use Rattle.reading.specs.Answer.{answer_numbers}
use Rattle.session_list.specs.List.{answers}
use Rattle.frame_lists.specs.FrameLists.{reference_number, verdict_returned}

-- the lists after a frame, from what `reading::store_answer` and `reference_number` leave and answer
module _ (session : List ℕ) (h : Header) (next : Session) {v : Verdict} {l : List ℕ} (s : l ≡ answer_numbers v h) where
  pub frame_accepted : {n t : ℕ} → v ≡ Verdict.Accepted t → n ≡ reference_number h.kind (get_or session 16 0)
      → answers 0 (set (set (set session 16 n) 17 next.key_frames) 18 next.others) l ≡ verdict_returned session h next v
  frame_accepted e m = rw (s, e, m)

  pub frame_refused : {k e : ℕ} → v ≡ Verdict.Refused k e → answers k session l ≡ verdict_returned session h next v
  frame_refused e = rw (s, e)
