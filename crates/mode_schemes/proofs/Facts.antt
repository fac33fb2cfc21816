-- What the functions' proofs need. Assumes nothing.
use Prim.Native.Nat.{ℕ, suc, ◌+◌, ◌-◌, ◌*◌, ◌/◌, ◌%◌, ◌^◌, ◌≤◌, ◌<◌}
use native.Mathlib.Omega.{arith}
use mathlib.Core.Path.{◌≡◌, sym, ap, ◌∙◌}
use mathlib.Core.List.{List, [], ◌∷◌}
use mathlib.Core.Bool.{true}
use lib.Dec.{eqb, ltb, eqb→eq}
use lib.ListN.{get_or, set, replicate}
use borrow.Author.Tests.{lt-ltb, eq-eqb, ne_eqb}
use Rattle.bitstream.specs.Reading.{got, refused, field}
use Rattle.bitstream.proofs.Table.{between, at}
use Rattle.mode_schemes.specs.Schemes.{ranks_from, sent_alphabet, mode_of_rank, digits, digit, luma_coded}

module _ (p : List ℕ) (i m : ℕ) (alphabet : List ℕ) where
  pub ranks_done : 8 ≤ m → ranks_from (8 - m) m alphabet p i ≡ got alphabet i
  unfolding ranks_from
  ranks_done h = let z : 8 - m ≡ 0 = omega arith in rw z

  pub ranks_end : m < 8 → {k e : ℕ} → field 3 p i ≡ refused k e → ranks_from (8 - m) m alphabet p i ≡ refused k e
  unfolding ranks_from
  ranks_end l f = let z : 8 - m ≡ suc (8 - (m + 1)) = omega arith in rw (z, f)

  ranks_suc : (n : ℕ) {r e : ℕ} → field 3 p i ≡ got r e → ranks_from (suc n) m alphabet p i ≡ ranks_from n (m + 1) (set alphabet r m) p e
  unfolding ranks_from
  ranks_suc n f = rw f

  pub ranks_on : m < 8 → {r e : ℕ} → field 3 p i ≡ got r e → ranks_from (8 - m) m alphabet p i ≡ ranks_from (8 - (m + 1)) (m + 1) (set alphabet r m) p e
  ranks_on l f = let z : 8 - m ≡ suc (8 - (m + 1)) = omega arith in ap (λ (n : ℕ). ranks_from n m alphabet p i) z ∙ ranks_suc (8 - (m + 1)) f

module _ (scheme : ℕ) (p : List ℕ) (i : ℕ) where
  pub alphabet_sent : scheme ≡ 0 → sent_alphabet scheme p i ≡ ranks_from 8 0 (replicate 8 0) p i
  unfolding sent_alphabet
  alphabet_sent h = rw (eq-eqb scheme 0 h)

  pub alphabet_none : (scheme ≡ 0 → ⊥) → sent_alphabet scheme p i ≡ got (replicate 8 0) i
  unfolding sent_alphabet
  alphabet_none h = rw (ne_eqb scheme 0 h)

abbrev pub places : List ℕ
places = 10000000 ∷ 1000000 ∷ 100000 ∷ 10000 ∷ 1000 ∷ 100 ∷ 10 ∷ 1 ∷ []

pub place_is : (r : ℕ) → r ≤ 7 → get_or places r 0 ≡ 10 ^ (7 - r)
place_is r h = eqb→eq (get_or places r 0) (10 ^ (7 - r)) (at (λ k x. eqb x (10 ^ (7 - k))) places tt r (omega arith))

pub place_some : (r : ℕ) → r ≤ 7 → 0 < get_or places r 0
place_some r h = (between 1 10000000 places tt r (omega arith)).0

pub digit_by : (scheme r : ℕ) → r ≤ 7 → get_or digits (scheme - 1) 0 / get_or places r 0 % 10 ≡ digit scheme r
unfolding digit
digit_by scheme r h = ap (λ (n : ℕ). get_or digits (scheme - 1) 0 / n % 10) (place_is r h)

module _ (scheme : ℕ) (alphabet : List ℕ) where
  pub of_rank_sent : (r : ℕ) → scheme ≡ 0 → get_or alphabet r 0 ≡ mode_of_rank scheme alphabet r
  unfolding mode_of_rank
  of_rank_sent r h = rw (eq-eqb scheme 0 h)

  pub of_rank_listed : (r : ℕ) → (scheme ≡ 0 → ⊥) → digit scheme r ≡ mode_of_rank scheme alphabet r
  unfolding mode_of_rank
  of_rank_listed r h = rw (ne_eqb scheme 0 h)

module _ (flags : List ℕ) (m : ℕ) where
  abbrev sum : ℕ
  sum = get_or flags (m * 4) 0 + get_or flags (m * 4 + 1) 0 + get_or flags (m * 4 + 2) 0 + get_or flags (m * 4 + 3) 0

  pub coded_by : 0 < sum → luma_coded flags m ≡ true
  unfolding luma_coded
  coded_by h = lt-ltb 0 sum h

  pub coded_last : sum ≡ get_or flags (m * 4 + 3) 0 → ltb 0 (get_or flags (m * 4 + 3) 0) ≡ luma_coded flags m
  unfolding luma_coded
  coded_last e = sym (ap (ltb 0) e)
