-- By what the lists of a shot call with settings are refused, one law for each way. Assumes nothing.
use Prim.Native.Nat.{ℕ}
use native.Mathlib.Omega.{arith}
use mathlib.Core.Path.{◌≡◌, refl}
use mathlib.Core.Bool.{Bool, true, false, ◌&&◌}
use mathlib.Core.List.{List}
use borrow.Author.Tests.{eq-eqb, ne_eqb, eqb-true}
use lib.Dec.{eqb}
use lib.ListN.{length}
use Rattle.bitstream.specs.Reading.{choose}
use Rattle.bitstream.proofs.ListLaws.{and_both}
use Rattle.settings.specs.declared.Settings.{Settings}
use Rattle.settings.specs.Settings.{settings_fit}
use Rattle.settings_list.specs.List.{settings_of}
use Rattle.settings_list.specs.ShotLists.{tiles_shot_number}

-- ---- by what the lists are refused
module _ (settings : List ℕ) (session names : ℕ) where
  pub number_1 : (length settings ≡ 4 → ⊥) → 1 ≡ tiles_shot_number settings session names
  unfolding tiles_shot_number
  number_1 h = rw (ne_eqb _ _ h)

  module _ (h : length settings ≡ 4) (set : Settings) (e : set ≡ settings_of settings) where
    pub number_20 : settings_fit set ≡ false → 20 ≡ tiles_shot_number settings session names
    unfolding tiles_shot_number
    number_20 f = rw (eq-eqb _ _ h, ← e, f)

    pub number_lists : settings_fit set ≡ true → (eqb session 19 && eqb names 2) ≡ false → 1 ≡ tiles_shot_number settings session names
    unfolding tiles_shot_number
    number_lists f l = rw (eq-eqb _ _ h, ← e, f, l)

    pub number_0 : settings_fit set ≡ true → (eqb session 19 && eqb names 2) ≡ true → 0 ≡ tiles_shot_number settings session names
    unfolding tiles_shot_number
    number_0 f l = rw (eq-eqb _ _ h, ← e, f, l)

  -- lists that are not refused have their lengths
  pub lists_long : tiles_shot_number settings session names ≡ 0 → (length settings ≡ 4) × (session ≡ 19) × (names ≡ 2)
  unfolding tiles_shot_number
  lists_long t = go (eqb (length settings) 4) (settings_fit (settings_of settings)) (eqb session 19 && eqb names 2) refl refl t
    where
      go : (a b d : Bool) → eqb (length settings) 4 ≡ a → (eqb session 19 && eqb names 2) ≡ d → ◌≡◌ {A = ℕ} (choose a (choose b (choose d 0 1) 20) 1) 0 → (length settings ≡ 4) × (session ≡ 19) × (names ≡ 2)
      go true true true h l z = let b = and_both (eqb session 19) (eqb names 2) l in (eqb-true _ _ h, eqb-true _ _ b.0, eqb-true _ _ b.1)
      go true true false h l z = absurd (omega arith)
      go true false d h l z = absurd (omega arith)
      go false b d h l z = absurd (omega arith)
