-- Each map of a shot by itself, and maps that are cut. Assumes nothing.
use Prim.Native.Nat.{ℕ, zero, suc, ◌+◌, ◌*◌, ◌≤◌, ◌<◌}
use native.Mathlib.Nat.{mul-suc}
use native.Mathlib.Omega.{arith}
use mathlib.Core.Path.{◌≡◌, refl, sym, ap, ◌∙◌}
use mathlib.Core.Bool.{Bool, true, false}
use mathlib.Core.List.{List, [], ◌∷◌, ◌++◌, append_assoc}
use lib.ListN.{length, get_or, take, drop, length-drop}
use lib.Seq.{take-take, drop-drop, take_at, drop-append-add, length-take-le}
use borrow.Author.Tests.{eq-eqb}
use Rattle.bitstream.specs.Reading.{Outcome, got, refused}
use Rattle.headers.specs.declared.Session.{Session}
use Rattle.headers.specs.Fits.{session_fits}
use Rattle.settings.specs.declared.Settings.{Settings}
use Rattle.settings.specs.Settings.{settings_fit}
use Rattle.ways.specs.Ways.{first_way}
use Rattle.reading.specs.Answer.{Asked}
use Rattle.asked_frame.specs.Answer.{State}
use Rattle.calls.specs.Call.{Call, outcome_of, by_rules}
use Rattle.shot_packets.specs.Play.{Shot, state_of, call_of, one_more, played}
use Rattle.tile_calls.specs.Call.{map_length_of, map_fits, tiles_call}
use Rattle.tile_calls.proofs.Calls.{map_here, map_any}
use Rattle.tile_calls.proofs.Said.{zero_or_one, map_is_left}
use Rattle.shot_maps.specs.Maps.{map_of, maps_after}
use Rattle.shot_maps.proofs.Maps.{long_after}

-- ---- the call of a packet leaves a map as long as it was
module _ (st : Settings) (fit : settings_fit st ≡ true) where
  pub map_fits_by : (s : Session) (map : List ℕ) → length map ≡ map_length_of st s → map_fits st s map ≡ true
  map_fits_by s map l = go (session_fits s) refl
    where
      go : (b : Bool) → session_fits s ≡ b → map_fits st s map ≡ true
      go true e = sym (map_here st s map e (map_length_of st s) refl) ∙ eq-eqb (length map) (map_length_of st s) l
      go false e = sym (map_any st s map e)

  map_size : (s : State) (c : Call) (map : List ℕ) → length map ≡ map_length_of st s.session → length (tiles_call st s c map).map ≡ map_length_of st s.session
  map_size s c map l = go (outcome_of s c) refl
    where
      go : (o : Outcome Asked) → outcome_of s c ≡ o → length (tiles_call st s c map).map ≡ map_length_of st s.session
      go (got a e) h = (zero_or_one st s c map a (record { settings = fit; map_fits_law = map_fits_by s.session map l; place = e; asked = h })).0
      go (refused k e) h = ap (λ (m : List ℕ). length m) ((map_is_left st s c map).packet k e h) ∙ l

  -- ---- map i is the map of the call of packet i
  module _ (table : List ℕ) where
    pub each : (h : Shot) (ps : List (List ℕ)) (maps : List ℕ) (k : ℕ) → map_length_of st h.session ≡ k → (i : ℕ) → i < length ps → k * length ps ≤ length maps
        → take k (drop (k * i) (maps_after st table h ps maps)) ≡ map_of st table (played (by_rules first_way) table h (take i ps)) (get_or ps i []) (take k (drop (k * i) maps))
    unfolding maps_after played
    each h [] maps k ek i l r = absurd (omega arith)
    each h (p ∷ ps) maps k ek zero l r =
        let n = map_length_of st h.session in
        let z : k * 0 ≡ 0 = omega arith in
        let rest = maps_after st table (one_more (by_rules first_way) table h p) ps (drop n maps) in
        let room : n ≤ length maps = omega (arith, mul-suc k (length ps), ek) in
        let size = map_size (state_of h) (call_of table h p) (take n maps) (length-take-le n maps room) in
        ap (λ (j : ℕ). take k (drop j (map_of st table h p (take n maps) ++ rest))) z
        ∙ take_at (map_of st table h p (take n maps)) rest k (size ∙ ek)
        ∙ (λ j. map_of st table h p (take (ek j) (drop (sym z j) maps)))
    each h (p ∷ ps) maps k ek (suc i) l r =
        let n = map_length_of st h.session in
        let g = one_more (by_rules first_way) table h p in
        let map = map_of st table h p (take n maps) in
        let rest = maps_after st table g ps (drop n maps) in
        let room : n ≤ length maps = omega (arith, mul-suc k (length ps), ek) in
        let size : length map ≡ k = map_size (state_of h) (call_of table h p) (take n maps) (length-take-le n maps room) ∙ ek in
        let step : k * suc i ≡ length map + k * i = omega (arith, mul-suc k i, size) in
        let back : n + k * i ≡ k * suc i = omega (arith, mul-suc k i, ek) in
        ap (λ (j : ℕ). take k (drop j (map ++ rest))) step
        ∙ ap (take k) (drop-append-add map rest (k * i))
        ∙ each g ps (drop n maps) k (long_after st table h p ∙ ek) i (omega arith) (omega (arith, length-drop n maps, mul-suc k (length ps), ek))
        ∙ ap (λ (m : List ℕ). map_of st table (played (by_rules first_way) table g (take i ps)) (get_or ps i []) (take k m)) (drop-drop (k * i) n maps ∙ ap (λ (j : ℕ). drop j maps) back)

-- ---- maps that are cut
take_none : (m : ℕ) → ◌≡◌ {A = List ℕ} [] (take m [])
take_none zero = refl
take_none (suc m) = refl

drop_take : (n m : ℕ) (list : List ℕ) → drop n (take (n + m) list) ≡ take m (drop n list)
drop_take zero m list = let e : 0 + m ≡ m = omega arith in ap (λ (k : ℕ). take k list) e
drop_take (suc n) m [] = let e : suc n + m ≡ suc (n + m) = omega arith in ap (λ (k : ℕ). drop (suc n) (take k [])) e ∙ take_none m
drop_take (suc n) m (x ∷ list) = let e : suc n + m ≡ suc (n + m) = omega arith in ap (λ (k : ℕ). drop (suc n) (take k (x ∷ list))) e ∙ drop_take n m list

module _ (st : Settings) (table : List ℕ) where
  pub maps_cut : (h : Shot) (ps qs : List (List ℕ)) (maps : List ℕ) (k : ℕ) → map_length_of st h.session ≡ k
      → maps_after st table h (ps ++ qs) maps ≡ maps_after st table h ps (take (k * length ps) maps) ++ maps_after st table (played (by_rules first_way) table h ps) qs (drop (k * length ps) maps)
  unfolding maps_after played
  maps_cut h [] qs maps k ek = let z : 0 ≡ k * 0 = omega arith in λ i. take (z i) maps ++ maps_after st table h qs (drop (z i) maps)
  maps_cut h (p ∷ ps) qs maps k ek =
      let n = map_length_of st h.session in
      let g = one_more (by_rules first_way) table h p in
      let l = k * length ps in
      let end = played (by_rules first_way) table g ps in
      let whole : n + l ≡ k * suc (length ps) = omega (arith, mul-suc k (length ps), ek) in
      let front : take n maps ≡ take n (take (k * suc (length ps)) maps) = sym (take-take n (k * suc (length ps)) maps (omega (arith, whole))) in
      let middle : take l (drop n maps) ≡ drop n (take (k * suc (length ps)) maps) = sym (drop_take n l maps) ∙ ap (λ (j : ℕ). drop n (take j maps)) whole in
      let behind : drop l (drop n maps) ≡ drop (k * suc (length ps)) maps = drop-drop l n maps ∙ ap (λ (j : ℕ). drop j maps) whole in
      ap (λ (m : List ℕ). map_of st table h p (take n maps) ++ m) (maps_cut g ps qs (drop n maps) k (long_after st table h p ∙ ek))
      ∙ sym (append_assoc (map_of st table h p (take n maps)) (maps_after st table g ps (take l (drop n maps))) (maps_after st table end qs (drop l (drop n maps))))
      ∙ (λ i. (map_of st table h p (front i) ++ maps_after st table g ps (middle i)) ++ maps_after st table end qs (behind i))
