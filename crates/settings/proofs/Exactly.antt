-- The theorems of settings texts: there and back, one text for each value, and which refusal is given when. Assumes nothing.
use Prim.Native.Nat.{ℕ, ◌≤◌}
use native.Mathlib.Omega.{arith}
use mathlib.Core.Path.{◌≡◌, refl, sym, ap, ◌∙◌}
use mathlib.Core.Bool.{Bool, true, false, ◌&&◌, ◌||◌, false≢true}
use mathlib.Core.List.{List, []}
use mathlib.Core.Logic.{◌⊎◌, inl, inr}
use lib.Dec.{eqb}
use borrow.Author.Tests.{eqb-true}
use lib.ListN.{length, take}
use Rattle.bitstream.specs.Reading.{choose}
use Rattle.text.specs.Same.{same}
use Rattle.text.proofs.Steps.{decimal_most}
use Rattle.text.proofs.Texts.{same_refl, same_eq}
use Rattle.settings.specs.declared.Settings.{Settings}
use Rattle.settings.specs.Settings.{settings_fit, holds, version_key, tile_key, first_key, last_key, plane_key, line, last_line, lines_then, text_of, said_in, is_text, is, refused, text_found, begins_version2, read}
use Rattle.settings.proofs.Readings.{Short, text_only, read_1, read_2, read_2_of_1}
use Rattle.settings.proofs.Lines.{fit, line_length}

short : (s : Settings) → settings_fit s ≡ true → Short s
short s h = let f = fit s h in record { tile = omega (arith, f.tile); first = omega (arith, f.first, f.last); last = omega (arith, f.last); plane = omega (arith, f.plane) }

-- ---- there and back
by_version : (version : ℕ) (s : Settings) (a b c : Bool) → eqb version 1 ≡ a → eqb s.plane 0 ≡ b → eqb version 2 ≡ c → ((a && b) || c) ≡ true
    → ((version ≡ 1) × (s.plane ≡ 0)) ⊎ (version ≡ 2)
by_version version s true true c x y z h = inl (eqb-true version 1 x, eqb-true s.plane 0 y)
by_version version s true false true x y z h = inr (eqb-true version 2 z)
by_version version s true false false x y z h = absurd (false≢true h)
by_version version s false b true x y z h = inr (eqb-true version 2 z)
by_version version s false b false x y z h = absurd (false≢true h)

pub held : (version : ℕ) (s : Settings) → holds version s ≡ true → ((version ≡ 1) × (s.plane ≡ 0)) ⊎ (version ≡ 2)
unfolding holds
held version s h = by_version version s (eqb version 1) (eqb s.plane 0) (eqb version 2) refl refl refl h

-- a value that was written is read back, in each version that holds it
pub read_written : (version : ℕ) (s : Settings) → settings_fit s ≡ true → holds version s ≡ true → read version (text_of version s) ≡ is s
read_written version s f h = by (held version s h)
  where
    by : ((version ≡ 1) × (s.plane ≡ 0)) ⊎ (version ≡ 2) → read version (text_of version s) ≡ is s
    by (inl e) = (λ i. read (e.0 i) (text_of (e.0 i) s)) ∙ read_1 s (short s f) e.1 f
    by (inr e) = (λ i. read (e i) (text_of (e i) s)) ∙ read_2 s (short s f) f

-- "its reader takes version 1 texts too, as plane 0"
pub read_old : (s : Settings) → settings_fit s ≡ true → s.plane ≡ 0 → read 2 (text_of 1 s) ≡ is s
read_old s f z = read_2_of_1 s (short s f) z f

-- one text for each value and version
pub one_text : (version : ℕ) (s r : Settings) → settings_fit s ≡ true → holds version s ≡ true → settings_fit r ≡ true → holds version r ≡ true → text_of version s ≡ text_of version r → s ≡ r
one_text version s r fs hs fr hr e = inner (sym (read_written version s fs hs) ∙ ap (read version) e ∙ read_written version r fr hr)
  where
    inner : is s ≡ is r → s ≡ r
    inner q = cc

-- ---- what is accepted
accepted_as : (version : ℕ) (t : List ℕ) (s : Settings) (b : Bool) → is_text version t ≡ b → choose b (is (said_in version t)) (refused 20) ≡ is s → (settings_fit s ≡ true) × (t ≡ text_of version s)
accepted_as version t s true h e =
    let q : said_in version t ≡ s = cc in
    let o = text_only version t h in
    (ap settings_fit (sym q) ∙ o.0, o.1 ∙ ap (text_of version) q)
accepted_as version t s false h e = let z : ◌≡◌ {A = ℕ} 0 1 = cc in absurd (omega arith)

-- an accepted text is the text of what it says, in version 1 or 2
pub accepted_1 : (t : List ℕ) (s : Settings) → read 1 t ≡ is s → (settings_fit s ≡ true) × (t ≡ text_of 1 s)
unfolding read
accepted_1 t s e = by (begins_version2 t) e
  where
    by : (b : Bool) → choose b (refused 19) (text_found 1 t) ≡ is s → (settings_fit s ≡ true) × (t ≡ text_of 1 s)
    by true q = let z : ◌≡◌ {A = ℕ} 0 1 = cc in absurd (omega arith)
    by false q = accepted_as 1 t s (is_text 1 t) refl q

pub accepted_2 : (t : List ℕ) (s : Settings) → read 2 t ≡ is s → (settings_fit s ≡ true) × ((t ≡ text_of 1 s) ⊎ (t ≡ text_of 2 s))
unfolding read
accepted_2 t s e = by (is_text 1 t) refl e
  where
    by : (b : Bool) → is_text 1 t ≡ b → choose b (is (said_in 1 t)) (text_found 2 t) ≡ is s → (settings_fit s ≡ true) × ((t ≡ text_of 1 s) ⊎ (t ≡ text_of 2 s))
    by true h q = let o = accepted_as 1 t s true h q in (o.0, inl o.1)
    by false h q = let o = accepted_as 2 t s (is_text 2 t) refl q in (o.0, inr o.1)

-- ---- which refusal
twenty_only : (version : ℕ) (t : List ℕ) (k : ℕ) (b : Bool) → choose b (is (said_in version t)) (refused 20) ≡ refused k → k ≡ 20
twenty_only version t k true e = let z : ◌≡◌ {A = ℕ} 0 1 = cc in absurd (omega arith)
twenty_only version t k false e = cc

-- 19 exactly if the first line is `version=2` with its line feed; every other fault is 20
pub exactly_19 : (t : List ℕ) → take 10 t ≡ line version_key 2 [] → read 1 t ≡ refused 19
unfolding read begins_version2
exactly_19 t e = rw (ap (λ (x : List ℕ). same x (line version_key 2 [])) e ∙ same_refl (line version_key 2 []))

pub refusal_1 : (t : List ℕ) (k : ℕ) → read 1 t ≡ refused k → ((k ≡ 19) × (take 10 t ≡ line version_key 2 [])) ⊎ (k ≡ 20)
unfolding read begins_version2
refusal_1 t k e = by (same (take 10 t) (line version_key 2 [])) refl e
  where
    by : (b : Bool) → same (take 10 t) (line version_key 2 []) ≡ b → choose b (refused 19) (text_found 1 t) ≡ refused k → ((k ≡ 19) × (take 10 t ≡ line version_key 2 [])) ⊎ (k ≡ 20)
    by true h q = inl (cc, same_eq (take 10 t) (line version_key 2 []) h)
    by false h q = inr (twenty_only 1 t k (is_text 1 t) q)

pub refusal_2 : (t : List ℕ) (k : ℕ) → read 2 t ≡ refused k → k ≡ 20
unfolding read
refusal_2 t k e = by (is_text 1 t) e
  where
    by : (b : Bool) → choose b (is (said_in 1 t)) (text_found 2 t) ≡ refused k → k ≡ 20
    by true q = let z : ◌≡◌ {A = ℕ} 0 1 = cc in absurd (omega arith)
    by false q = twenty_only 2 t k (is_text 2 t) q

-- ---- how long a text is
last_length : (version : ℕ) (s : Settings) → s.plane ≤ 2 → length (last_line version s) ≤ 8
last_length version s h = by (eqb version 2)
  where
    by : (b : Bool) → length (choose b (line plane_key s.plane []) []) ≤ 8
    by true = omega (arith, line_length plane_key s.plane [], decimal_most 0 s.plane (omega arith) (omega arith))
    by false = omega arith

pub text_length : (version : ℕ) (s : Settings) → settings_fit s ≡ true → version ≤ 2 → length (text_of version s) ≤ 61
unfolding text_of lines_then
text_length version s h v =
    let f = fit s h in
    let e = last_line version s in
    let d = line last_key s.shot_last e in
    let c = line first_key s.shot_first d in
    let b = line tile_key s.tile c in
    omega (
      arith,
      line_length version_key version b,
      line_length tile_key s.tile c,
      line_length first_key s.shot_first d,
      line_length last_key s.shot_last e,
      last_length version s f.plane,
      decimal_most 0 version (omega arith) (omega arith),
      decimal_most 1 s.tile (omega arith) (omega (arith, f.tile)),
      decimal_most 5 s.shot_first (omega arith) (omega (arith, f.first, f.last)),
      decimal_most 5 s.shot_last (omega arith) (omega (arith, f.last)),
    )
