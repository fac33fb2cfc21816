-- What a string that was read is: as long as was wanted, each of it 0 or 1; n runs are enough for n bits. Assumes nothing.
use Prim.Native.Nat.{ℕ, zero, suc, ◌+◌, ◌-◌, ◌≤◌, ◌<◌}
use native.Mathlib.Omega.{arith}
use mathlib.Core.Path.{◌≡◌, refl, sym, ap, ◌∙◌, subst}
use mathlib.Core.List.{List, [], ◌++◌}
use mathlib.Core.Bool.{Bool, true, false}
use lib.Dec.{leb}
use lib.ListN.{length, replicate, length-append, length-replicate}
use borrow.Author.Tests.{leb-true, le-leb}
use Rattle.bitstream.specs.Reading.{got, pure, bind, here, guard, until}
use Rattle.bitstream.proofs.Fields.{no_mix}
use Rattle.bitstream.proofs.Laws.{bind_got, until_enough, until_keeps}
use Rattle.runs.specs.declared.RunCode.{RunCode}
use Rattle.runs.specs.Runs.{run, Sent, next_bit, fresh, one_run, complete, sent, bit_string}
use Rattle.bitstream.specs.Lists.{AllBelow, none}
use Rattle.runs.proofs.Facts.{bit_most, run_some}
use Rattle.bitstream.proofs.ListLaws.{all_replicate, all_append}

record Sound (n : ℕ) (s : Sent) : Type 0 where
  most : length s.done ≤ n
  bits : AllBelow 2 s.done
  bit : s.value ≤ 1

abbrev grown : Sent → ℕ → ℕ → Sent
grown s b r = record { done = s.done ++ replicate r b; value = 1 - b; anew = fresh r }

one_sound : (code : RunCode) (n : ℕ) (s : Sent) (p : List ℕ) (i : ℕ) (t : Sent) (e : ℕ) → Sound n s → one_run code n s p i ≡ got t e → Sound n t
unfolding one_run
one_sound code n s p i t e h g =
    let u = bind_got (next_bit s.anew s.value) (λ b. bind here (λ at. bind (run code) (λ r. bind (guard (leb (length s.done + r) n) 12 at) (λ _. pure (grown s b r))))) p i g in
    let v = bind_got (run code) (λ r. bind (guard (leb (length s.done + r) n) 12 u.1) (λ _. pure (grown s u.0 r))) p u.1 u.3 in
    go u.0 v.0 u.1 v.1 (leb (length s.done + v.0) n) refl (bit_most s.anew s.value p i h.bit u.2) v.3
  where
    go : (b r at d : ℕ) (q : Bool) → leb (length s.done + r) n ≡ q → b ≤ 1 → bind (guard q 12 at) (λ _. pure (grown s b r)) p d ≡ got t e → Sound n t
    go b r at d true l m x =
        let z : grown s b r ≡ t = cc in
        let k : length s.done + r ≤ n = leb-true _ _ l in
        subst (Sound n) z (record {
          most = omega (arith, length-append s.done (replicate r b), length-replicate r b, k);
          bits = all_append h.bits (all_replicate r b (omega arith));
          bit = omega arith;
        })
    go b r at d false l m x = no_mix (sym x)

-- a run has a bit at least
one_longer : (code : RunCode) (n : ℕ) (s : Sent) (p : List ℕ) (i : ℕ) (t : Sent) (e : ℕ) → one_run code n s p i ≡ got t e → length s.done < length t.done
unfolding one_run
one_longer code n s p i t e g =
    let u = bind_got (next_bit s.anew s.value) (λ b. bind here (λ at. bind (run code) (λ r. bind (guard (leb (length s.done + r) n) 12 at) (λ _. pure (grown s b r))))) p i g in
    let v = bind_got (run code) (λ r. bind (guard (leb (length s.done + r) n) 12 u.1) (λ _. pure (grown s u.0 r))) p u.1 u.3 in
    go u.0 v.0 u.1 v.1 (leb (length s.done + v.0) n) (run_some code p u.1 v.0 v.1 v.2) v.3
  where
    go : (b r at d : ℕ) (q : Bool) → 1 ≤ r → bind (guard q 12 at) (λ _. pure (grown s b r)) p d ≡ got t e → length s.done < length t.done
    go b r at d true l x =
        let z : grown s b r ≡ t = cc in
        subst (λ (y : Sent). length s.done < length y.done) z (omega (arith, length-append s.done (replicate r b), length-replicate r b, l))
    go b r at d false l x = no_mix (sym x)

-- n runs are enough for n bits: no packet reaches the last clause of `until` in `sent`, whatever number k it had there
pub runs_enough : (code : RunCode) (n k : ℕ) (p : List ℕ) (i : ℕ) → sent code n p i ≡ until (complete n) (one_run code n) k n (record { done = []; value = 0; anew = 1 }) p i
unfolding sent
runs_enough code n k p i =
    until_enough (complete n) (one_run code n) (λ s. length s.done) n (λ s. le-leb n (length s.done)) (one_longer code n) 12 k n (record { done = []; value = 0; anew = 1 }) (omega arith) p i

-- a string is as long as was wanted, and each of it is 0 or 1
module _ (code : RunCode) (n : ℕ) (p : List ℕ) (i : ℕ) {l : List ℕ} {e : ℕ} (g : bit_string code n p i ≡ got l e) where
  sound : (s : Sent) × Sound n s × (n ≤ length s.done) × (s.done ≡ l)
  unfolding bit_string sent
  sound =
      let u = bind_got (sent code n) (λ s. pure s.done) p i g in
      let k = until_keeps (complete n) (one_run code n) 12 (Sound n) (one_sound code n) n (record { done = []; value = 0; anew = 1 }) (record { most = omega arith; bits = none; bit = omega arith }) p i u.0 u.1 u.2 in
      (u.0, k.0, leb-true _ _ k.1, cc)

  pub string_length : length l ≡ n
  string_length = let s = sound in let m = s.1.most in let q : length s.0.done ≡ length l = ap length s.3 in omega (arith, m, q, s.2)

  pub string_bits : AllBelow 2 l
  string_bits = let s = sound in subst (AllBelow 2) s.3 s.1.bits
