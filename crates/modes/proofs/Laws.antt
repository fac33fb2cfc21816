-- The modes keep the reading algebra's laws, and there is one for each macro block. Assumes nothing.
use Prim.Native.Nat.{ℕ, zero, suc, ◌+◌, ◌*◌}
use native.Mathlib.Omega.{arith}
use native.Mathlib.Nat.{zero-mul, suc-mul}
use mathlib.Core.Path.{◌≡◌, ap}
use mathlib.Core.List.{List, [], ◌∷◌, ◌++◌}
use mathlib.Core.Bool.{true}
use lib.Dec.{eqb}
use lib.ListN.{length, set, replicate, length-append}
use Rattle.bitstream.specs.Lists.{among}
use Rattle.bitstream.specs.Reading.{got, bind, field}
use Rattle.bitstream.proofs.Laws.{Lawful, pure_lawful, pick_lawful, bind_lawful, field_lawful, whole_lawful, bind_got}
use Rattle.bitstream.proofs.Inside.{Inside, pure_inside, pick_inside, bind_inside, field_inside, whole_inside, Refuses, pure_refuses, pick_refuses, bind_refuses, field_refuses, whole_refuses}
use Rattle.bitstream.proofs.Spends.{Spends, spends_more, pure_spends, field_spends, bind_spends, pick_spends, whole_spends}
use Rattle.bitstream.proofs.Unary.{unary_lawful, unary_inside, unary_refuses, unary_spends}
use Rattle.mode_schemes.specs.Schemes.{ranks_from, sent_alphabet, luma_coded}
use Rattle.modes.specs.Modes.{mode, mode_of, modes_from, macro_modes}

ranks_lawful : (n m : ℕ) (alphabet : List ℕ) → Lawful (ranks_from n m alphabet)
unfolding ranks_from
ranks_lawful zero m alphabet = pure_lawful alphabet
ranks_lawful (suc n) m alphabet = bind_lawful (field_lawful 3) (λ r. ranks_lawful n (m + 1) (set alphabet r m))

sent_lawful : (scheme : ℕ) → Lawful (sent_alphabet scheme)
unfolding sent_alphabet
sent_lawful scheme = pick_lawful (eqb scheme 0) (ranks_lawful 8 0 (replicate 8 0)) (pure_lawful (replicate 8 0))

mode_lawful : (scheme : ℕ) (alphabet flags : List ℕ) (m : ℕ) → Lawful (mode_of scheme alphabet flags m)
unfolding mode_of mode
mode_lawful scheme alphabet flags m =
    pick_lawful (luma_coded flags m) (pick_lawful (eqb scheme 7) (field_lawful 3) (bind_lawful (whole_lawful (unary_lawful 7 0)) (λ r. pure_lawful _))) (pure_lawful 0)

modes_lawful : (scheme : ℕ) (alphabet flags : List ℕ) (n m : ℕ) (done : List ℕ) → Lawful (modes_from scheme alphabet flags n m done)
unfolding modes_from
modes_lawful scheme alphabet flags zero m done = pure_lawful done
modes_lawful scheme alphabet flags (suc n) m done = bind_lawful (mode_lawful scheme alphabet flags m) (λ v. modes_lawful scheme alphabet flags n (m + 1) (done ++ v ∷ []))

pub macro_modes_lawful : (flags : List ℕ) (n : ℕ) → Lawful (macro_modes flags n)
unfolding macro_modes
macro_modes_lawful flags n = bind_lawful (field_lawful 3) (λ s. bind_lawful (sent_lawful s) (λ alphabet. modes_lawful s alphabet flags n 0 []))

-- ---- what is refused lies in the packet
ranks_inside : {d : ℕ} (n m : ℕ) (alphabet : List ℕ) → Inside d (ranks_from n m alphabet)
unfolding ranks_from
ranks_inside zero m alphabet = pure_inside alphabet
ranks_inside (suc n) m alphabet = bind_inside (field_inside 3) (λ r. ranks_inside n (m + 1) (set alphabet r m))

sent_inside : {d : ℕ} (scheme : ℕ) → Inside d (sent_alphabet scheme)
unfolding sent_alphabet
sent_inside scheme = pick_inside (eqb scheme 0) (ranks_inside 8 0 (replicate 8 0)) (pure_inside (replicate 8 0))

mode_inside : {d : ℕ} (scheme : ℕ) (alphabet flags : List ℕ) (m : ℕ) → Inside d (mode_of scheme alphabet flags m)
unfolding mode_of mode
mode_inside scheme alphabet flags m =
    pick_inside (luma_coded flags m) (pick_inside (eqb scheme 7) (field_inside 3) (bind_inside (whole_inside (unary_inside 7 0)) (λ r. pure_inside _))) (pure_inside 0)

modes_inside : {d : ℕ} (scheme : ℕ) (alphabet flags : List ℕ) (n m : ℕ) (done : List ℕ) → Inside d (modes_from scheme alphabet flags n m done)
unfolding modes_from
modes_inside scheme alphabet flags zero m done = pure_inside done
modes_inside scheme alphabet flags (suc n) m done = bind_inside (mode_inside scheme alphabet flags m) (λ v. modes_inside scheme alphabet flags n (m + 1) (done ++ v ∷ []))

pub macro_modes_inside : {d : ℕ} (flags : List ℕ) (n : ℕ) → Inside d (macro_modes flags n)
unfolding macro_modes
macro_modes_inside flags n = bind_inside (field_inside 3) (λ s. bind_inside (sent_inside s) (λ alphabet. modes_inside s alphabet flags n 0 []))

-- ---- and is refused by 4
module _ {ks : List ℕ} (four : among ks 4 ≡ true) where
  ranks_refuses : (n m : ℕ) (alphabet : List ℕ) → Refuses ks (ranks_from n m alphabet)
  unfolding ranks_from
  ranks_refuses zero m alphabet = pure_refuses alphabet
  ranks_refuses (suc n) m alphabet = bind_refuses (field_refuses 3 four) (λ r. ranks_refuses n (m + 1) (set alphabet r m))

  sent_refuses : (scheme : ℕ) → Refuses ks (sent_alphabet scheme)
  unfolding sent_alphabet
  sent_refuses scheme = pick_refuses (eqb scheme 0) (ranks_refuses 8 0 (replicate 8 0)) (pure_refuses (replicate 8 0))

  mode_refuses : (scheme : ℕ) (alphabet flags : List ℕ) (m : ℕ) → Refuses ks (mode_of scheme alphabet flags m)
  unfolding mode_of mode
  mode_refuses scheme alphabet flags m =
      pick_refuses (luma_coded flags m) (pick_refuses (eqb scheme 7) (field_refuses 3 four) (bind_refuses (whole_refuses (unary_refuses four 7 0)) (λ r. pure_refuses _))) (pure_refuses 0)

  modes_refuses : (scheme : ℕ) (alphabet flags : List ℕ) (n m : ℕ) (done : List ℕ) → Refuses ks (modes_from scheme alphabet flags n m done)
  unfolding modes_from
  modes_refuses scheme alphabet flags zero m done = pure_refuses done
  modes_refuses scheme alphabet flags (suc n) m done = bind_refuses (mode_refuses scheme alphabet flags m) (λ v. modes_refuses scheme alphabet flags n (m + 1) (done ++ v ∷ []))

  pub macro_modes_refuses : (flags : List ℕ) (n : ℕ) → Refuses ks (macro_modes flags n)
  unfolding macro_modes
  macro_modes_refuses flags n = bind_refuses (field_refuses 3 four) (λ s. bind_refuses (sent_refuses s) (λ alphabet. modes_refuses s alphabet flags n 0 []))

-- ---- bits that are spent: 3 for the scheme, 24 for the ranks that scheme 0 sends, 7 at most for each mode
ranks_spends : (n m : ℕ) (alphabet : List ℕ) → Spends (n * 3) (ranks_from n m alphabet)
unfolding ranks_from
ranks_spends zero m alphabet = rw zero-mul (pure_spends alphabet)
ranks_spends (suc n) m alphabet = spends_more (rw suc-mul (omega arith)) (bind_spends (field_spends 3) (λ r. ranks_spends n (m + 1) (set alphabet r m)))

sent_spends : (scheme : ℕ) → Spends 24 (sent_alphabet scheme)
unfolding sent_alphabet
sent_spends scheme = pick_spends (eqb scheme 0) (λ _. ranks_spends 8 0 (replicate 8 0)) (λ _. spends_more (omega arith) (pure_spends (replicate 8 0)))

mode_spends : (scheme : ℕ) (alphabet flags : List ℕ) (m : ℕ) → Spends 7 (mode_of scheme alphabet flags m)
unfolding mode_of mode
mode_spends scheme alphabet flags m =
    pick_spends (luma_coded flags m)
    (λ _. pick_spends (eqb scheme 7) (λ _. spends_more (omega arith) (field_spends 3)) (λ _. spends_more (omega arith) (bind_spends {b = 0} (whole_spends (unary_spends 7 0)) (λ r. pure_spends _))))
    (λ _. spends_more (omega arith) (pure_spends 0))

modes_spends : (scheme : ℕ) (alphabet flags : List ℕ) (n m : ℕ) (done : List ℕ) → Spends (n * 7) (modes_from scheme alphabet flags n m done)
unfolding modes_from
modes_spends scheme alphabet flags zero m done = rw zero-mul (pure_spends done)
modes_spends scheme alphabet flags (suc n) m done =
    spends_more (rw suc-mul (omega arith)) (bind_spends (mode_spends scheme alphabet flags m) (λ v. modes_spends scheme alphabet flags n (m + 1) (done ++ v ∷ [])))

pub macro_modes_spends : (flags : List ℕ) (n : ℕ) → Spends (27 + n * 7) (macro_modes flags n)
unfolding macro_modes
macro_modes_spends flags n =
    spends_more (omega arith) (bind_spends (field_spends 3) (λ s. bind_spends (sent_spends s) (λ alphabet. modes_spends s alphabet flags n 0 [])))

-- ---- a mode for each macro block
from_length : (scheme : ℕ) (alphabet flags : List ℕ) (n m : ℕ) (done p : List ℕ) (i : ℕ) {modes : List ℕ} {e : ℕ} → modes_from scheme alphabet flags n m done p i ≡ got modes e → length modes ≡ length done + n
unfolding modes_from
from_length scheme alphabet flags zero m done p i {modes} g = let z : done ≡ modes = cc in omega (arith, ap length z)
from_length scheme alphabet flags (suc n) m done p i g =
    let u = bind_got (mode_of scheme alphabet flags m) (λ v. modes_from scheme alphabet flags n (m + 1) (done ++ v ∷ [])) p i g in
    omega (arith, from_length scheme alphabet flags n (m + 1) (done ++ u.0 ∷ []) p u.1 u.3, length-append done (u.0 ∷ []))

pub macro_modes_length : (flags : List ℕ) (n : ℕ) (p : List ℕ) (i : ℕ) {modes : List ℕ} {e : ℕ} → macro_modes flags n p i ≡ got modes e → length modes ≡ n
unfolding macro_modes
macro_modes_length flags n p i g =
    let u = bind_got (field 3) (λ s. bind (sent_alphabet s) (λ alphabet. modes_from s alphabet flags n 0 [])) p i g in
    let v = bind_got (sent_alphabet u.0) (λ alphabet. modes_from u.0 alphabet flags n 0 []) p u.1 u.3 in
    omega (arith, from_length u.0 v.0 flags n 0 [] p v.1 v.3)
