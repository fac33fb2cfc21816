-- What answers return and leave, one law for each way. Assumes nothing.
use Prim.Native.Nat.{ℕ}
use mathlib.Core.Path.{◌≡◌, ap}
use mathlib.Core.Bool.{Bool}
use mathlib.Core.List.{List, [], ◌∷◌}
use lib.ListN.{length, set}
use borrow.Author.Tests.{eq-eqb, ne_eqb}
use Rattle.bitstream.specs.Reading.{choose}
use Rattle.headers.specs.declared.Session.{Session}
use Rattle.headers.specs.declared.IdentificationAnswer.{IdentificationAnswer}
use Rattle.setup.specs.Table.{table_bytes, is_table}
use Rattle.session_list.specs.List.{Returned, gives, answers}
use Rattle.session_list.proofs.Lists.{only}
use Rattle.answer_lists.specs.Lists.{flag, numbers_of, session_returned, table_call}

-- the numbers of a session, with the last one found by `flag_number`
pub with_flag : (s : Session) (n : ℕ) → n ≡ flag s.references
    → (s.fields.vrev ∷ s.fields.fmbw ∷ s.fields.fmbh ∷ s.fields.picw ∷ s.fields.pich ∷ s.fields.picx ∷ s.fields.picy ∷ s.fields.frn ∷ s.fields.frd ∷ s.fields.parn ∷ s.fields.pard ∷ s.fields.cs
    ∷ s.fields.nombr ∷ s.fields.qual ∷ s.fields.kfgshift ∷ s.fields.pf ∷ n ∷ s.key_frames ∷ s.others ∷ []) ≡ numbers_of s
unfolding numbers_of
with_flag s n e = rw e

-- the identification call, from what the call below answers
module _ (session place : List ℕ) (l : length place ≡ 1) {a : IdentificationAnswer} where
  pub session_accepted : {s : Session} {k : ℕ} {list : List ℕ} → a ≡ IdentificationAnswer.Accepted s → gives k list ≡ gives 0 (numbers_of s) → answers k list (set place 0 0) ≡ session_returned session a
  session_accepted e g = rw (e, only place 0 l, ap (λ (x : Returned). x.number) g, ap (λ (x : Returned). x.left) g)

  pub session_refused : {k e : ℕ} → a ≡ IdentificationAnswer.Refused k e → answers k session (set place 0 e) ≡ session_returned session a
  session_refused {k} {e} h = rw (h, only place e l)

-- the test of a table memory, by its length
module _ (t : List ℕ) where
  pub table_tested : length t ≡ table_bytes → {b : Bool} → b ≡ is_table t → choose b 0 8 ≡ table_call t
  unfolding table_call
  table_tested h e = rw (eq-eqb _ _ h) (ap (λ (b : Bool). choose b 0 8) e)

  pub table_length : (length t ≡ table_bytes → ⊥) → 1 ≡ table_call t
  unfolding table_call
  table_length h = rw (ne_eqb _ _ h)
