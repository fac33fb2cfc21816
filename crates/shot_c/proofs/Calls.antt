-- The call for C, one law for each way that it goes. Assumes nothing.
use Prim.Native.Nat.{ℕ}
use native.Mathlib.Omega.{arith}
use mathlib.Core.Path.{◌≡◌, refl, sym, ap, ◌∙◌}
use mathlib.Core.Bool.{true, false, ◌&&◌}
use mathlib.Core.List.{List, [], ◌∷◌}
use lib.Dec.{eqb}
use lib.ListN.{length, get_or, set}
use Rattle.headers.specs.declared.Session.{Session}
use Rattle.session_list.specs.List.{session_of}
use Rattle.ways.specs.Ways.{first_way}
use Rattle.work_memory.specs.Memory.{Memory}
use Rattle.buffer_names.specs.declared.Names.{Names}
use Rattle.shot.specs.declared.ShotAnswer.{ShotAnswer}
use Rattle.shot.specs.declared.ShotVerdict.{ShotVerdict}
use Rattle.shot.specs.declared.ShotVerdict.TheVariants.{Played, Refused}
use Rattle.opening.specs.Call.{shot_call}
use Rattle.shot.specs.Call.{ShotDone, by_shot}
use Rattle.shot_c.specs.Face.{names_in, reference_number, session_numbers, Lists, lists, lists_by, lists_after, ShotReturned, shot_gives, done_returned, shot_face}

-- two numbers in a list of two
two_set : (l : List ℕ) (g p : ℕ) → length l ≡ 2 → set (set l 0 g) 1 p ≡ g ∷ p ∷ []
two_set [] g p h = absurd (omega arith)
two_set (x ∷ []) g p h = absurd (omega arith)
two_set (x ∷ y ∷ []) g p h = refl
two_set (x ∷ y ∷ z ∷ l) g p h = absurd (omega arith)

module _ (session names : List ℕ) (a : ShotAnswer) where
  pub lists_played : length names ≡ 2 → a.verdict ≡ Played → {n : ℕ} → n ≡ reference_number a.session.references (get_or session 16 0)
      → lists 0 (set (set (set session 16 n) 17 a.session.key_frames) 18 a.session.others) (set (set names 0 a.names.golden) 1 a.names.previous) ≡ lists_after session names a
  lists_played h e {n} m =
      let s = a.session in
      let t = two_set names a.names.golden a.names.previous h in
      (λ i. lists 0 (set (set (set session 16 (m i)) 17 s.key_frames) 18 s.others) (t i))
      ∙ ap (lists_by session names s a.names) (sym e)

  pub lists_refused : {k : ℕ} → a.verdict ≡ Refused k → lists k session names ≡ lists_after session names a
  lists_refused e = ap (lists_by session names a.session a.names) (sym e)

module _ (session names lengths joined table : List ℕ) (m : Memory) (x y z answers : List ℕ) where
  pub shot_made : (eqb (length session) 19 && eqb (length names) 2) ≡ true → {s : Session} → s ≡ session_of session → {n : Names} → n ≡ names_in names
      → (d : ShotDone) → d ≡ by_shot first_way (shot_call s n lengths joined table m x y z answers) → {l : Lists} → l ≡ lists_after session names d.answer
      → ◌≡◌ {A = ShotReturned} (record { lists = l; planes = d.planes; memory = d.memory; answers = d.answers }) (shot_face session names lengths joined table m x y z answers)
  unfolding shot_face
  shot_made h es en d ed el =
      (λ i. record { lists = el i; planes = d.planes; memory = d.memory; answers = d.answers })
      ∙ ap (done_returned session names) (ed ∙ (λ i. by_shot first_way (shot_call (es i) (en i) lengths joined table m x y z answers)))
      ∙ sym (rw h)

  pub shot_unmade : (eqb (length session) 19 && eqb (length names) 2) ≡ false
      → shot_gives (lists 1 session names) x y z m answers ≡ shot_face session names lengths joined table m x y z answers
  unfolding shot_face
  shot_unmade h = sym (rw h)
