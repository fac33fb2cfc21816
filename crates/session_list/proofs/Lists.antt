-- A call by the lengths of its lists. Assumes nothing.
use Prim.Native.Nat.{ℕ}
use native.Mathlib.Omega.{arith}
use mathlib.Core.Path.{◌≡◌, refl, sym, ap, ◌∙◌}
use mathlib.Core.Bool.{Bool, true, false}
use mathlib.Core.List.{List, [], ◌∷◌}
use lib.Dec.{eqb}
use lib.ListN.{length, set}
use borrow.Author.Tests.{eqb-true, eq-eqb, ne_eqb}
use Rattle.bitstream.specs.Reading.{choose}
use Rattle.headers.specs.Fits.{session_fits}
use Rattle.headers.specs.declared.Session.{Session}
use Rattle.session_list.specs.List.{Returned, gives, session_of, lists_number, on_list}

-- ---- by what the lists of a call on a session are refused
module _ (n : ℕ) (session : List ℕ) (room : ℕ) where
  pub lists_length : (length session ≡ 19 → ⊥) → 1 ≡ lists_number n session room
  unfolding lists_number
  lists_length h = rw (ne_eqb _ _ h)

  pub lists_none : length session ≡ 19 → room ≡ n → 0 ≡ lists_number n session room
  unfolding lists_number
  lists_none h r = rw (eq-eqb _ _ h, eq-eqb _ _ r)

  module _ (h : length session ≡ 19) {s : Session} (e : s ≡ session_of session) where
    pub lists_room : session_fits s ≡ true → (room ≡ n → ⊥) → 1 ≡ lists_number n session room
    unfolding lists_number
    lists_room f r = rw (eq-eqb _ _ h, ← e, f, ne_eqb _ _ r)

    pub lists_fields : session_fits s ≡ false → (room ≡ n → ⊥) → 8 ≡ lists_number n session room
    unfolding lists_number
    lists_fields f r = rw (eq-eqb _ _ h, ← e, f, ne_eqb _ _ r)

  -- lists that are not refused have their lengths
  pub lengths : lists_number n session room ≡ 0 → (length session ≡ 19) × (room ≡ n)
  unfolding lists_number
  lengths t = go (eqb (length session) 19) (eqb room n) (session_fits (session_of session)) refl refl t
    where
      go : (a b c : Bool) → eqb (length session) 19 ≡ a → eqb room n ≡ b → ◌≡◌ {A = ℕ} (choose a (choose b 0 (choose c 1 8)) 1) 0 → (length session ≡ 19) × (room ≡ n)
      go true true c h r z = (eqb-true _ _ h, eqb-true _ _ r)
      go true false true h r z = absurd (omega arith)
      go true false false h r z = absurd (omega arith)
      go false b c h r z = absurd (omega arith)

module _ (n : ℕ) (session old : List ℕ) {k : ℕ} (e : k ≡ lists_number n session (length old)) where
  -- a call that is made on the session s of the list, and one whose lists are refused
  pub made : (call : Session → Returned) {s : Session} {x : Returned} → k ≡ 0 → s ≡ session_of session → x ≡ call s → x ≡ on_list n session old call
  unfolding on_list
  made call z f h = rw (eq-eqb _ 0 (sym e ∙ z)) (h ∙ ap call f)

  pub unmade : (call : Session → Returned) → (k ≡ 0 → ⊥) → gives k old ≡ on_list n session old call
  unfolding on_list
  unmade call z = rw (ne_eqb _ 0 (λ w. z (e ∙ w))) (ap (λ (m : ℕ). gives m old) e)

-- a list of one number, after it was stored
pub only : (l : List ℕ) (n : ℕ) → length l ≡ 1 → set l 0 n ≡ n ∷ []
only [] n h = absurd (omega arith)
only (x ∷ []) n h = refl
only (x ∷ y ∷ l) n h = absurd (omega arith)
