-- The tests of settings and of the maps' length; the buffer of a name. Assumes nothing.
use Prim.Native.Nat.{ℕ, zero, suc, ◌*◌, ◌/◌, ◌%◌}
use native.Mathlib.Nat.{div-add-mod', mul-div_cancel, mul-mod_left}
use native.Mathlib.Omega.{arith}
use mathlib.Core.Path.{◌≡◌, refl, sym, ap, ◌∙◌}
use mathlib.Core.Bool.{Bool, true, false, ◌&&◌}
use mathlib.Core.List.{List, [], ◌∷◌}
use borrow.Author.Tests.{eqb-true, eqb-false, eq-eqb, ne_eqb}
use lib.Dec.{eqb}
use Rattle.bitstream.specs.Reading.{choose}
use Rattle.headers.specs.declared.Session.{Session}
use Rattle.headers.specs.Fits.{session_fits}
use Rattle.settings.specs.declared.Settings.{Settings}
use Rattle.settings.specs.Settings.{settings_fit}
use Rattle.reading.specs.declared.Verdict.{Verdict}
use Rattle.reading.specs.declared.Verdict.TheVariants.{Accepted, Refused}
use Rattle.frame_into.specs.Buffers.{buffer_of}
use Rattle.frame_into.proofs.Lent.{big}
use Rattle.tile_calls.specs.Call.{map_length_of, IfAccepted}
use Rattle.shot_maps.specs.Maps.{maps_fit, maps_number}

-- ---- so many bytes are so many maps
pub bytes_none : (n p b : ℕ) → p ≡ 0 → eqb b 0 ≡ eqb b (n * p)
bytes_none n p b e = let z : n * p ≡ 0 = ap (λ (q : ℕ). n * q) e ∙ omega arith in ap (eqb b) (sym z)

pub bytes_some : (n p b : ℕ) → (p ≡ 0 → ⊥) → (eqb (b % p) 0 && eqb (b / p) n) ≡ eqb b (n * p)
bytes_some n p b some = go (eqb (b % p) 0) (eqb (b / p) n) refl refl
  where
    go : (x y : Bool) → eqb (b % p) 0 ≡ x → eqb (b / p) n ≡ y → (x && y) ≡ eqb b (n * p)
    go true true hx hy =
        let u = eqb-true (b % p) 0 hx in
        let v = ap (λ (q : ℕ). q * p) (eqb-true (b / p) n hy) in
        sym (eq-eqb b (n * p) (omega (arith, div-add-mod' b p)))
    go true false hx hy = sym (ne_eqb b (n * p) (λ e. eqb-false (b / p) n hy (ap (λ (q : ℕ). q / p) e ∙ mul-div_cancel n (omega arith))))
    go false y hx hy = sym (ne_eqb b (n * p) (λ e. eqb-false (b % p) 0 hx (ap (λ (q : ℕ). q % p) e ∙ mul-mod_left n p)))

module _ (set : Settings) (s : Session) (packets bytes : ℕ) where
  pub fit_here : session_fits s ≡ true → (n : ℕ) → n ≡ map_length_of set s → eqb bytes (n * packets) ≡ maps_fit set s packets bytes
  unfolding maps_fit
  fit_here g n e = rw g (ap (λ (n : ℕ). eqb bytes (n * packets)) e)

  pub fit_any : session_fits s ≡ false → true ≡ maps_fit set s packets bytes
  unfolding maps_fit
  fit_any g = rw g

  -- ---- by what settings and maps are refused
  pub number_20 : settings_fit set ≡ false → 20 ≡ maps_number set s packets bytes
  unfolding maps_number
  number_20 h = rw h

  pub number_1 : settings_fit set ≡ true → maps_fit set s packets bytes ≡ false → 1 ≡ maps_number set s packets bytes
  unfolding maps_number
  number_1 h f = rw (h, f)

  pub number_0 : settings_fit set ≡ true → maps_fit set s packets bytes ≡ true → 0 ≡ maps_number set s packets bytes
  unfolding maps_number
  number_0 h f = rw (h, f)

  pub maps_pass : maps_number set s packets bytes ≡ 0 → (settings_fit set ≡ true) × (maps_fit set s packets bytes ≡ true)
  unfolding maps_number
  maps_pass h = go (settings_fit set) (maps_fit set s packets bytes) h
    where
      go : (x y : Bool) → ◌≡◌ {A = ℕ} (choose x (choose y 0 1) 20) 0 → (x ≡ true) × (y ≡ true)
      go true true h = (refl, refl)
      go true false h = absurd (omega arith)
      go false y h = absurd (omega arith)

  -- maps of a session that fits, which are not refused, have their length
  pub maps_long : maps_number set s packets bytes ≡ 0 → session_fits s ≡ true → bytes ≡ map_length_of set s * packets
  maps_long h g = eqb-true bytes (map_length_of set s * packets) (fit_here g (map_length_of set s) refl ∙ (maps_pass h).1)

-- ---- the buffer of a name
module _ (x y z : List ℕ) where
  pub buffer_first : (k : ℕ) → k ≡ 0 → x ≡ buffer_of (x ∷ y ∷ z ∷ []) k
  buffer_first k e = ap (buffer_of (x ∷ y ∷ z ∷ [])) (sym e)

  pub buffer_third : (k : ℕ) → k ≡ 2 → z ≡ buffer_of (x ∷ y ∷ z ∷ []) k
  buffer_third k e = ap (buffer_of (x ∷ y ∷ z ∷ [])) (sym e)

  pub buffer_second : (k : ℕ) → (k ≡ 0 → ⊥) → (k ≡ 2 → ⊥) → y ≡ buffer_of (x ∷ y ∷ z ∷ []) k
  buffer_second zero a b = absurd (a refl)
  buffer_second (suc zero) a b = refl
  buffer_second (suc (suc zero)) a b = absurd (b refl)
  buffer_second (suc (suc (suc k))) a b = sym (big x y z (suc (suc (suc k))) (omega arith))

-- ---- what holds anyway holds of an accepted packet
pub if_any : (v : Verdict) {P : Type 0} → P → IfAccepted v P
if_any (Accepted n) p = p
if_any (Refused k e) p = tt
