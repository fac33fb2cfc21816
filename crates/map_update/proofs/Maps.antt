-- What settings that fit say, and the map after an accepted packet. Assumes nothing.
use Prim.Native.Nat.{ℕ, ◌+◌, ◌<◌}
use native.Mathlib.Nat.{zero-add}
use native.Mathlib.Omega.{arith}
use mathlib.Core.Path.{◌≡◌, refl, sym, ap, ◌∙◌, subst}
use mathlib.Core.Bool.{Bool, true, false, ◌&&◌, ◌||◌}
use mathlib.Core.List.{List, ◌++◌, append-nil}
use borrow.Author.Tests.{eqb-true, leb-true}
use lib.Dec.{eqb, leb}
use lib.ListN.{length, take, drop, replicate}
use lib.Seq.{drop-length}
use Rattle.headers.specs.declared.Session.{Session}
use Rattle.headers.specs.Sizes.{format}
use Rattle.bitstream.proofs.ListLaws.{and_both}
use Rattle.settings.specs.declared.Settings.{Settings}
use Rattle.settings.specs.Settings.{settings_fit}
use Rattle.tile_map.specs.Tiles.{IsTile, tile_map}
use Rattle.map_update.specs.Map.{map_length_of, accepted_map}

-- ---- what settings that fit say: the tile is 8, 16 or 32, and the plane is one of three
module _ (set : Settings) (fit : settings_fit set ≡ true) where
  pub settings_tile : IsTile set.tile
  unfolding settings_fit
  settings_tile = by (eqb set.tile 8) refl (eqb set.tile 16) refl (eqb set.tile 32) refl (and_both _ _ fit).0
    where
      is : (n : ℕ) → eqb set.tile n ≡ true → IsTile n → IsTile set.tile
      is n e t = subst (λ (m : ℕ). IsTile m) (sym (eqb-true set.tile n e)) t

      by : (a : Bool) → eqb set.tile 8 ≡ a → (b : Bool) → eqb set.tile 16 ≡ b → (c : Bool) → eqb set.tile 32 ≡ c → a || b || c ≡ true → IsTile set.tile
      by true ea b eb c ec h = is 8 ea (omega arith, refl, omega arith)
      by false ea true eb c ec h = is 16 eb (omega arith, refl, omega arith)
      by false ea false eb true ec h = is 32 ec (omega arith, refl, omega arith)
      by false ea false eb false ec h = let z : ◌≡◌ {A = ℕ} 0 1 = cc in absurd (omega arith)

  pub settings_plane : set.plane < 3
  unfolding settings_fit
  settings_plane =
      let first = leb set.shot_first set.shot_last in
      let plane = leb set.plane 2 in
      let rest = (and_both (eqb set.tile 8 || eqb set.tile 16 || eqb set.tile 32) (leb set.shot_last 999999 && (first && plane)) fit).1 in
      let p = leb-true set.plane 2 (and_both first plane (and_both (leb set.shot_last 999999) (first && plane) rest).1).1 in
      omega arith

-- ---- the map after an accepted packet
module _ (set : Settings) (s : Session) where
  module _ (previous new : List ℕ) where
    pub accepted_compared : s.references ≡ true → accepted_map set s previous new ≡ tile_map (format s) s.fields.fmbw s.fields.fmbh set.plane set.tile previous new
    unfolding accepted_map
    accepted_compared h = rw h

    pub accepted_first : s.references ≡ false → accepted_map set s previous new ≡ replicate (map_length_of set s) 1
    unfolding accepted_map
    accepted_first h = rw h

-- all bytes of a list set
pub all_filled : (l : List ℕ) (n v : ℕ) → length l ≡ n → take 0 l ++ replicate (length l) v ++ drop (0 + length l) l ≡ replicate n v
all_filled l n v e = rw (zero-add (length l), drop-length l) (append-nil _ ∙ ap (λ (k : ℕ). replicate k v) e)
