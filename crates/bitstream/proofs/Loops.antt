-- A loop that reads n values, turn by turn. Assumes nothing.
use Prim.Native.Nat.{ℕ, suc, ◌+◌, ◌-◌, ◌≤◌, ◌<◌}
use native.Mathlib.Omega.{arith}
use native.Mathlib.Nat.{sub-zero}
use native.Mathlib.Numerals.{add-one}
use mathlib.Core.Path.{◌≡◌, sym, ap, ◌∙◌}
use mathlib.Core.List.{List, [], ◌∷◌, ◌++◌}
use lib.ListN.{length, take, set}
use lib.Seq.{take-suc-set}
use Rattle.bitstream.specs.Reading.{got, refused, Parse, times, many}
use Rattle.bitstream.proofs.Laws.{times_is_many}

-- ---- a turn, at the k-th
module _ {A : Type 0} (m : Parse A) (p : List ℕ) (i n k : ℕ) (done : List A) (l : k < n) where
  one_more : n - k ≡ suc (n - (k + 1))
  one_more = omega arith

  pub times_got : {a : A} {e : ℕ} → m p i ≡ got a e → times (n - k) m done p i ≡ times (n - (k + 1)) m (done ++ a ∷ []) p e
  unfolding times
  times_got h = rw (one_more, h)

  pub times_refused : {j e : ℕ} → m p i ≡ refused j e → times (n - k) m done p i ≡ refused j e
  unfolding times
  times_refused h = rw (one_more, h)

-- the first turn, and after the last
pub times_start : {A : Type 0} (m : Parse A) (p : List ℕ) (i n : ℕ) → many n m p i ≡ times (n - 0) m [] p i
times_start m p i n = times_is_many n m p i ∙ ap (λ (j : ℕ). times j m [] p i) (sym (sub-zero n))

pub times_all : {A : Type 0} (m : Parse A) (p : List ℕ) (i n k : ℕ) (done : List A) → n ≤ k → times (n - k) m done p i ≡ got done i
unfolding times
times_all m p i n k done h = let e : n - k ≡ 0 = omega arith in rw e

-- a turn where the values so far are those at the front of a list, and the one that was got is stored behind them
pub times_stored : (m : Parse ℕ) (p : List ℕ) (i n k : ℕ) (out : List ℕ) {a e : ℕ} → k < n → k < length out → m p i ≡ got a e
    → times (n - k) m (take k out) p i ≡ times (n - (k + 1)) m (take (k + 1) (set out k a)) p e
times_stored m p i n k out {a} {e} l r h =
    times_got m p i n k (take k out) l h ∙ ap (λ (done : List ℕ). times (n - (k + 1)) m done p e) (sym (rw (add-one k) (take-suc-set out k a r)))

-- ---- `many`, by its first value
module _ {A : Type 0} (n : ℕ) (m : Parse A) (p : List ℕ) (i : ℕ) where
  pub many_first : {k e : ℕ} → m p i ≡ refused k e → many (suc n) m p i ≡ refused k e
  unfolding many
  many_first h = rw h

  pub many_later : {a : A} {e k d : ℕ} → m p i ≡ got a e → many n m p e ≡ refused k d → many (suc n) m p i ≡ refused k d
  unfolding many
  many_later h g = rw (h, g)

  pub many_cons : {a : A} {l : List A} {e d : ℕ} → m p i ≡ got a e → many n m p e ≡ got l d → many (suc n) m p i ≡ got (a ∷ l) d
  unfolding many
  many_cons h g = rw (h, g)
