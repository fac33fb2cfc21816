-- What a call leaves, by its lists. Assumes nothing.
use Prim.Native.Nat.{ℕ}
use mathlib.Core.Path.{◌≡◌, sym, ap, ◌∙◌}
use mathlib.Core.List.{List}
use lib.ListN.{length}
use borrow.Author.Tests.{eq-eqb, ne_eqb}
use Rattle.headers.specs.declared.Session.{Session}
use Rattle.output.specs.Output.{left_by}
use Rattle.session_list.specs.List.{session_of, lists_number}
use Rattle.rgb.specs.Picture.{picture_for}
use Rattle.rgb_c.specs.Face.{rgb_left}

module _ (session planes out : List ℕ) (n : ℕ) {k : ℕ} (e : k ≡ lists_number 1 session n) where
  pub left_made : {s : Session} {new : List ℕ} → k ≡ 0 → s ≡ session_of session → new ≡ left_by (picture_for s planes (length out)) out → new ≡ rgb_left session planes out n
  unfolding rgb_left
  left_made z f h = rw (eq-eqb _ 0 (sym e ∙ z)) (h ∙ ap (λ (s : Session). left_by (picture_for s planes (length out)) out) f)

  pub left_unmade : (k ≡ 0 → ⊥) → out ≡ rgb_left session planes out n
  unfolding rgb_left
  left_unmade z = rw (ne_eqb _ 0 (λ w. z (e ∙ w)))
