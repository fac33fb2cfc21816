-- Every mode is one of the eight: below 8. Assumes nothing.
use Prim.Native.Nat.{ℕ, zero, suc, ◌+◌, ◌-◌, ◌/◌, ◌%◌, ◌≤◌, ◌<◌}
use native.Mathlib.Omega.{arith}
use mathlib.Core.Path.{◌≡◌, sym, ◌∙◌, subst}
use mathlib.Core.List.{List, [], ◌∷◌, ◌++◌}
use mathlib.Core.Bool.{Bool, true, false}
use lib.Dec.{eqb, leb, leb→le}
use lib.ListN.{get_or, set, replicate, length-set}
use Rattle.bitstream.specs.Lists.{AllBelow, none, one}
use Rattle.bitstream.specs.Reading.{got, pure, bind, pick, choose, field, whole, unary}
use Rattle.bitstream.proofs.Fields.{field_lt, no_mix}
use Rattle.bitstream.proofs.Laws.{bind_got, whole_cases}
use Rattle.bitstream.proofs.ListLaws.{all_append, all_replicate, all_at, all_of, set_cases}
use Rattle.bitstream.proofs.Table.{at}
use Rattle.bitstream.proofs.Unary.{unary_most}
use Rattle.mode_schemes.specs.Schemes.{ranks_from, sent_alphabet, digits, digit, mode_of_rank, luma_coded}
use Rattle.modes.specs.Modes.{mode, mode_of, modes_from, macro_modes}
use Rattle.mode_schemes.proofs.Facts.{places, digit_by}

-- ---- the digits: one line after the other, at each of its places
line_below : (j r : ℕ) → r ≤ 7 → get_or digits j 0 / get_or places r 0 % 10 ≤ 7
line_below zero r h = leb→le (34201567 / get_or places r 0 % 10) 7 (at (λ k x. leb (34201567 / x % 10) 7) places tt r (omega arith))
line_below (suc zero) r h = leb→le (34021567 / get_or places r 0 % 10) 7 (at (λ k x. leb (34021567 / x % 10) 7) places tt r (omega arith))
line_below (suc (suc zero)) r h = leb→le (32401567 / get_or places r 0 % 10) 7 (at (λ k x. leb (32401567 / x % 10) 7) places tt r (omega arith))
line_below (suc (suc (suc zero))) r h = leb→le (32041567 / get_or places r 0 % 10) 7 (at (λ k x. leb (32041567 / x % 10) 7) places tt r (omega arith))
line_below (suc (suc (suc (suc zero)))) r h = leb→le (3421567 / get_or places r 0 % 10) 7 (at (λ k x. leb (3421567 / x % 10) 7) places tt r (omega arith))
line_below (suc (suc (suc (suc (suc zero))))) r h = leb→le (5342167 / get_or places r 0 % 10) 7 (at (λ k x. leb (5342167 / x % 10) 7) places tt r (omega arith))
line_below (suc (suc (suc (suc (suc (suc j)))))) r h = leb→le (0 / get_or places r 0 % 10) 7 (at (λ k x. leb (0 / x % 10) 7) places tt r (omega arith))

digit_below : (scheme r : ℕ) → r ≤ 7 → digit scheme r < 8
digit_below scheme r h = omega (arith, digit_by scheme r h, line_below (scheme - 1) r h)

-- ---- the modes of the ranks that scheme 0 sends
set_below : (l : List ℕ) (k v : ℕ) → v < 8 → AllBelow 8 l → AllBelow 8 (set l k v)
set_below l k v h a = all_of (set l k v) (λ i b. set_cases (λ x. x < 8) l k i v 0 (λ e. h) (all_at i a (omega (arith, length-set l k v))))

ranks_below : (n m : ℕ) (alphabet p : List ℕ) (i : ℕ) {l : List ℕ} {e : ℕ} → m + n ≤ 8 → AllBelow 8 alphabet → ranks_from n m alphabet p i ≡ got l e → AllBelow 8 l
unfolding ranks_from
ranks_below zero m alphabet p i {l} h a g = let z : alphabet ≡ l = cc in subst (AllBelow 8) z a
ranks_below (suc n) m alphabet p i h a g =
    let u = bind_got (field 3) (λ r. ranks_from n (m + 1) (set alphabet r m)) p i g in
    ranks_below n (m + 1) (set alphabet u.0 m) p u.1 (omega arith) (set_below alphabet u.0 m (omega arith) a) u.3

sent_below : (scheme : ℕ) (p : List ℕ) (i : ℕ) {l : List ℕ} {e : ℕ} → sent_alphabet scheme p i ≡ got l e → AllBelow 8 l
unfolding sent_alphabet
sent_below scheme p i {l} {e} g = go (eqb scheme 0) g
  where
    go : (b : Bool) → pick b (ranks_from 8 0 (replicate 8 0)) (pure (replicate 8 0)) p i ≡ got l e → AllBelow 8 l
    go true g = ranks_below 8 0 (replicate 8 0) p i (omega arith) (all_replicate 8 0 (omega arith)) g
    go false g = let z : replicate 8 0 ≡ l = cc in subst (AllBelow 8) z (all_replicate 8 0 (omega arith))

-- ---- one mode
ranked_below : (scheme : ℕ) (alphabet : List ℕ) → AllBelow 8 alphabet → (r : ℕ) → r ≤ 7 → mode_of_rank scheme alphabet r < 8
unfolding mode_of_rank
ranked_below scheme alphabet a r h = go (eqb scheme 0)
  where
    inside : (l : List ℕ) (k : ℕ) → AllBelow 8 l → get_or l k 0 < 8
    inside [] k none = omega arith
    inside (x ∷ l) zero (one h a) = h
    inside (x ∷ l) (suc k) (one h a) = inside l k a

    go : (b : Bool) → choose b (get_or alphabet r 0) (digit scheme r) < 8
    go true = inside alphabet r a
    go false = digit_below scheme r h

rank_most : (p : List ℕ) (i : ℕ) {r e : ℕ} → whole (unary 7 0) p i ≡ got r e → r ≤ 7
rank_most p i {r} {e} g =
    whole_cases (unary 7 0) p i (λ a d q w. let y = sym w ∙ g in let z : a ≡ r = cc in omega (arith, unary_most 7 0 p i a d q)) (λ k d q w. no_mix (sym g ∙ w))

mode_below : (scheme : ℕ) (alphabet : List ℕ) → AllBelow 8 alphabet → (p : List ℕ) (i : ℕ) {v e : ℕ} → mode scheme alphabet p i ≡ got v e → v < 8
unfolding mode
mode_below scheme alphabet a p i {v} {e} g = go (eqb scheme 7) g
  where
    go : (b : Bool) → pick b (field 3) (bind (whole (unary 7 0)) (λ r. pure (mode_of_rank scheme alphabet r))) p i ≡ got v e → v < 8
    go true g = omega (arith, field_lt 3 p i g)
    go false g =
        let u = bind_got (whole (unary 7 0)) (λ r. pure (mode_of_rank scheme alphabet r)) p i g in
        let z : mode_of_rank scheme alphabet u.0 ≡ v = cc in
        omega (arith, ranked_below scheme alphabet a u.0 (rank_most p i u.2))

of_below : (scheme : ℕ) (alphabet flags : List ℕ) (m : ℕ) → AllBelow 8 alphabet → (p : List ℕ) (i : ℕ) {v e : ℕ} → mode_of scheme alphabet flags m p i ≡ got v e → v < 8
unfolding mode_of
of_below scheme alphabet flags m a p i {v} {e} g = go (luma_coded flags m) g
  where
    go : (b : Bool) → pick b (mode scheme alphabet) (pure 0) p i ≡ got v e → v < 8
    go true g = mode_below scheme alphabet a p i g
    go false g = let z : 0 ≡ v = cc in omega arith

-- ---- all of them
from_below : (scheme : ℕ) (alphabet flags : List ℕ) → AllBelow 8 alphabet → (n m : ℕ) (done p : List ℕ) (i : ℕ) {modes : List ℕ} {e : ℕ}
    → AllBelow 8 done → modes_from scheme alphabet flags n m done p i ≡ got modes e → AllBelow 8 modes
unfolding modes_from
from_below scheme alphabet flags a zero m done p i {modes} d g = let z : done ≡ modes = cc in subst (AllBelow 8) z d
from_below scheme alphabet flags a (suc n) m done p i d g =
    let u = bind_got (mode_of scheme alphabet flags m) (λ v. modes_from scheme alphabet flags n (m + 1) (done ++ v ∷ [])) p i g in
    from_below scheme alphabet flags a n (m + 1) (done ++ u.0 ∷ []) p u.1 (all_append d (one (of_below scheme alphabet flags m a p i u.2) none)) u.3

-- every mode of a frame is below 8
pub modes_below : (flags : List ℕ) (n : ℕ) (p : List ℕ) (i : ℕ) {modes : List ℕ} {e : ℕ} → macro_modes flags n p i ≡ got modes e → AllBelow 8 modes
unfolding macro_modes
modes_below flags n p i g =
    let u = bind_got (field 3) (λ s. bind (sent_alphabet s) (λ alphabet. modes_from s alphabet flags n 0 [])) p i g in
    let v = bind_got (sent_alphabet u.0) (λ alphabet. modes_from u.0 alphabet flags n 0 []) p u.1 u.3 in
    from_below u.0 v.0 flags (sent_below u.0 p u.1 v.2) n 0 [] p v.1 none v.3
