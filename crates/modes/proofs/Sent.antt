-- A mode other than NOMV was sent, so its macro block has a coded luma block. Assumes nothing.
use Prim.Native.Nat.{ℕ, zero, suc, ◌+◌, ◌<◌}
use native.Mathlib.Omega.{arith}
use mathlib.Core.Path.{◌≡◌, refl, ap, ◌∙◌}
use mathlib.Core.List.{List, [], ◌∷◌, ◌++◌}
use mathlib.Core.Bool.{Bool, true, false}
use lib.ListN.{length, get_or, length-append, get_or-append}
use lib.Seq.{get_or_at}
use Rattle.bitstream.specs.Reading.{got, bind, field}
use Rattle.bitstream.proofs.Laws.{bind_got}
use Rattle.mode_schemes.specs.Schemes.{sent_alphabet, luma_coded}
use Rattle.modes.specs.Modes.{mode_of, modes_from, macro_modes}
use Rattle.modes.proofs.Facts.{mode_none}

module _ (scheme : ℕ) (alphabet flags p : List ℕ) where
  -- the modes so far stay
  modes_stay : (n m : ℕ) (done : List ℕ) (i : ℕ) {modes : List ℕ} {e : ℕ} → modes_from scheme alphabet flags n m done p i ≡ got modes e
      → (k : ℕ) → k < length done → get_or modes k 0 ≡ get_or done k 0
  unfolding modes_from
  modes_stay zero m done i {modes} g k l = let z : modes ≡ done = cc in ap (λ (x : List ℕ). get_or x k 0) z
  modes_stay (suc n) m done i g k l =
      let u = bind_got (mode_of scheme alphabet flags m) (λ v. modes_from scheme alphabet flags n (m + 1) (done ++ v ∷ [])) p i g in
      modes_stay n (m + 1) (done ++ u.0 ∷ []) u.1 u.3 k (omega (arith, length-append done (u.0 ∷ []))) ∙ get_or-append done (u.0 ∷ []) 0 k l

  -- macro block j, the one k places behind macro block m, is NOMV if it has no coded luma block
  none_sent : (n m : ℕ) (done : List ℕ) (i : ℕ) {modes : List ℕ} {e : ℕ} → modes_from scheme alphabet flags n m done p i ≡ got modes e → length done ≡ m
      → (k j : ℕ) → m + k ≡ j → k < n → luma_coded flags j ≡ false → get_or modes j 0 ≡ 0
  unfolding modes_from
  none_sent zero m done i g s k j at l f = absurd (omega arith)
  none_sent (suc n) m done i g s zero j at l f =
      let u = bind_got (mode_of scheme alphabet flags m) (λ v. modes_from scheme alphabet flags n (m + 1) (done ++ v ∷ [])) p i g in
      let here : m ≡ j = omega arith in
      let z : u.0 ≡ 0 = cc (mode_none scheme alphabet flags m p i (rw here f)) in
      modes_stay n (m + 1) (done ++ u.0 ∷ []) u.1 u.3 j (omega (arith, length-append done (u.0 ∷ []))) ∙ get_or_at done u.0 [] 0 j (s ∙ here) ∙ z
  none_sent (suc n) m done i g s (suc k) j at l f =
      let u = bind_got (mode_of scheme alphabet flags m) (λ v. modes_from scheme alphabet flags n (m + 1) (done ++ v ∷ [])) p i g in
      none_sent n (m + 1) (done ++ u.0 ∷ []) u.1 u.3 (omega (arith, length-append done (u.0 ∷ []))) k j (omega arith) (omega arith) f

module _ (flags : List ℕ) (n : ℕ) (p : List ℕ) (i : ℕ) {modes : List ℕ} {e : ℕ} (g : macro_modes flags n p i ≡ got modes e) (m : ℕ) (l : m < n) where
  none_coded : luma_coded flags m ≡ false → get_or modes m 0 ≡ 0
  unfolding macro_modes
  none_coded f =
      let u = bind_got (field 3) (λ s. bind (sent_alphabet s) (λ alphabet. modes_from s alphabet flags n 0 [])) p i g in
      let v = bind_got (sent_alphabet u.0) (λ alphabet. modes_from u.0 alphabet flags n 0 []) p u.1 u.3 in
      none_sent u.0 v.0 flags p n 0 [] v.1 v.3 refl m m (omega arith) l f

  -- "There always is one in that mode": a macro block of mode 7, FOUR, has a coded luma block
  pub four_coded : get_or modes m 0 ≡ 7 → luma_coded flags m ≡ true
  four_coded four = go (luma_coded flags m) refl
    where
      go : (b : Bool) → luma_coded flags m ≡ b → b ≡ true
      go true f = refl
      go false f = let z : get_or modes m 0 ≡ 0 = none_coded f in absurd (omega arith)
