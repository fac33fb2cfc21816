-- What is accepted of settings texts: a text of version 1 says plane 0. Assumes nothing.
use Prim.Native.Nat.{ℕ}
use native.Mathlib.Omega.{arith}
use mathlib.Core.Path.{◌≡◌, refl, sym, ap, ◌∙◌}
use mathlib.Core.Bool.{Bool, true, false}
use mathlib.Core.List.{List}
use mathlib.Core.Logic.{◌⊎◌, inl, inr}
use Rattle.bitstream.specs.Reading.{choose}
use Rattle.settings.specs.declared.Settings.{Settings}
use Rattle.settings.specs.Settings.{settings_fit, text_of, said_in, is_text, is, refused, text_found, begins_version2, read}
use Rattle.settings.proofs.Readings.{text_only}

accepted_as : (version : ℕ) (t : List ℕ) (s : Settings) (b : Bool) → is_text version t ≡ b → choose b (is (said_in version t)) (refused 20) ≡ is s
    → (settings_fit s ≡ true) × (t ≡ text_of version s)
accepted_as version t s true h e =
    let q : said_in version t ≡ s = cc in
    let o = text_only version t h in
    (ap settings_fit (sym q) ∙ o.0, o.1 ∙ ap (text_of version) q)
accepted_as version t s false h e = let z : ◌≡◌ {A = ℕ} 0 1 = cc in absurd (omega arith)

-- a text of version 1 says plane 0
as_plane_0 : (t : List ℕ) (s : Settings) (b : Bool) → choose b (is (said_in 1 t)) (refused 20) ≡ is s → s.plane ≡ 0
unfolding said_in
as_plane_0 t s true e = let q : said_in 1 t ≡ s = cc in sym (ap (λ (x : Settings). x.plane) q)
as_plane_0 t s false e = let z : ◌≡◌ {A = ℕ} 0 1 = cc in absurd (omega arith)

-- an accepted text is the text of what it says, in version 1 or 2: "its reader takes version 1 texts too, as plane 0"
pub accepted_1 : (t : List ℕ) (s : Settings) → read 1 t ≡ is s → (settings_fit s ≡ true) × (s.plane ≡ 0) × (t ≡ text_of 1 s)
unfolding read
accepted_1 t s e = by (begins_version2 t) e
  where
    by : (b : Bool) → choose b (refused 19) (text_found 1 t) ≡ is s → (settings_fit s ≡ true) × (s.plane ≡ 0) × (t ≡ text_of 1 s)
    by true q = let z : ◌≡◌ {A = ℕ} 0 1 = cc in absurd (omega arith)
    by false q = let o = accepted_as 1 t s (is_text 1 t) refl q in (o.0, as_plane_0 t s (is_text 1 t) q, o.1)

pub accepted_2 : (t : List ℕ) (s : Settings) → read 2 t ≡ is s → (settings_fit s ≡ true) × (((s.plane ≡ 0) × (t ≡ text_of 1 s)) ⊎ (t ≡ text_of 2 s))
unfolding read
accepted_2 t s e = by (is_text 1 t) refl e
  where
    by : (b : Bool) → is_text 1 t ≡ b → choose b (is (said_in 1 t)) (text_found 2 t) ≡ is s
        → (settings_fit s ≡ true) × (((s.plane ≡ 0) × (t ≡ text_of 1 s)) ⊎ (t ≡ text_of 2 s))
    by true h q = let o = accepted_as 1 t s true h q in (o.0, inl (as_plane_0 t s true q, o.1))
    by false h q = let o = accepted_as 2 t s (is_text 2 t) refl q in (o.0, inr o.1)
