-- What the calls return and leave, by what their lists are. Assumes nothing.
use Prim.Native.Nat.{ℕ}
use mathlib.Core.Path.{◌≡◌, refl, sym, ap, ◌∙◌}
use mathlib.Core.List.{List}
use lib.ListN.{length}
use borrow.Author.Tests.{eq-eqb, ne_eqb}
use Rattle.headers.specs.declared.Session.{Session}
use Rattle.session_list.specs.List.{Returned, gives, session_of, lists_number}
use Rattle.output.specs.declared.Written.{Written}
use Rattle.output.specs.Output.{Output, left_by, as_written}
use Rattle.y4m.specs.declared.FilmAnswer.{FilmAnswer}
use Rattle.y4m.specs.Film.{Holds, as_film, planes_by}
use Rattle.settings.specs.declared.Settings.{Settings}
use Rattle.settings.specs.declared.Loaded.{Loaded}
use Rattle.settings.specs.Settings.{settings_text, as_loaded, read}
use Rattle.settings_list.specs.List.{settings_of}
use Rattle.scoring_c.specs.Face.{behind, wrote_returned, film_returned, film_call, planes_left, text_call, loaded_returned, read_call}

module _ (session : List ℕ) (room : ℕ) where
  module _ (call : Session → Output) (list out : List ℕ) where
    -- a refusal for the lists
    pub lists_refused : (k : ℕ) → k ≡ lists_number 1 session room → (k ≡ 0 → ⊥)
        → (gives k list ≡ wrote_returned list (as_written (behind session room call))) × (out ≡ left_by (behind session room call) out)
    unfolding behind
    lists_refused k e z = rw (ne_eqb (lists_number 1 session room) 0 (λ h. z (e ∙ h))) (ap (λ (m : ℕ). gives m list) e, refl)

    -- the call itself
    pub lists_pass : (k : ℕ) → k ≡ lists_number 1 session room → k ≡ 0 → (s : Session) → s ≡ session_of session
        → (w : Written) (new : List ℕ) (x : Returned) → w ≡ as_written (call s) → new ≡ left_by (call s) out → x ≡ wrote_returned list w
        → (x ≡ wrote_returned list (as_written (behind session room call))) × (new ≡ left_by (behind session room call) out)
    unfolding behind
    lists_pass k e z s es w new x a l t =
        rw (eq-eqb (lists_number 1 session room) 0 (sym e ∙ z))
        (t ∙ ap (wrote_returned list) (a ∙ ap (λ (y : Session). as_written (call y)) es), l ∙ ap (λ (y : Session). left_by (call y) out) es)

-- ---- reading a stream
module _ (old planes : List ℕ) (h : Holds) where
  pub film_1 : (length old ≡ 8 → ⊥) → (gives 1 old ≡ film_call old (as_film h)) × (planes ≡ planes_left (length old) h planes)
  unfolding film_call planes_left
  film_1 z = rw (ne_eqb (length old) 8 z) (refl, refl)

  pub film_pass : length old ≡ 8 → (a : FilmAnswer) (new : List ℕ) (x : Returned) → x ≡ film_returned old a → a ≡ as_film h → new ≡ planes_by h planes
      → (x ≡ film_call old (as_film h)) × (new ≡ planes_left (length old) h planes)
  unfolding film_call planes_left
  film_pass z a new x e f l = rw (eq-eqb (length old) 8 z) (e ∙ ap (film_returned old) f, l)

-- ---- settings
module _ (version : ℕ) (list old out : List ℕ) where
  pub text_list : (length list ≡ 4 → ⊥) → (gives 1 old ≡ wrote_returned old (as_written (text_call version list (length out) (length old)))) × (out ≡ left_by (text_call version list (length out) (length old)) out)
  unfolding text_call
  text_list z = rw (ne_eqb (length list) 4 z) (refl, refl)

  pub text_answer : length list ≡ 4 → (length old ≡ 1 → ⊥) → (gives 1 old ≡ wrote_returned old (as_written (text_call version list (length out) (length old)))) × (out ≡ left_by (text_call version list (length out) (length old)) out)
  unfolding text_call
  text_answer l z = rw (eq-eqb (length list) 4 l, ne_eqb (length old) 1 z) (refl, refl)

  pub text_pass : length list ≡ 4 → length old ≡ 1 → (s : Settings) → s ≡ settings_of list → (w : Written) (new : List ℕ) (x : Returned)
      → w ≡ as_written (settings_text version s (length out)) → new ≡ left_by (settings_text version s (length out)) out → x ≡ wrote_returned old w
      → (x ≡ wrote_returned old (as_written (text_call version list (length out) (length old)))) × (new ≡ left_by (text_call version list (length out) (length old)) out)
  unfolding text_call
  text_pass l o s e w new x a n t =
      rw (eq-eqb (length list) 4 l, eq-eqb (length old) 1 o)
      (t ∙ ap (wrote_returned old) (a ∙ ap (λ (y : Settings). as_written (settings_text version y (length out))) e), n ∙ ap (λ (y : Settings). left_by (settings_text version y (length out)) out) e)

pub read_list : (old : List ℕ) (a : Loaded) → (length old ≡ 4 → ⊥) → gives 1 old ≡ read_call old a
unfolding read_call
read_list old a z = rw (ne_eqb (length old) 4 z)

pub read_pass : (version : ℕ) (text old : List ℕ) → length old ≡ 4 → (s : Settings) → s ≡ settings_of old → (a : Loaded) (x : Returned) → a ≡ as_loaded s (read version text) → x ≡ loaded_returned old a
    → x ≡ read_call old (as_loaded (settings_of old) (read version text))
unfolding read_call
read_pass version text old l s e a x f t = rw (eq-eqb (length old) 4 l) (t ∙ ap (loaded_returned old) (f ∙ ap (λ (y : Settings). as_loaded y (read version text)) e))
