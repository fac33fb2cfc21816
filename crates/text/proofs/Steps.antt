-- How the loops over digits go. Assumes nothing.
use mathlib.Core.Path.{◌≡◌, refl, sym, ap, ◌∙◌, subst}
use mathlib.Core.Bool.{true, false}
use mathlib.Core.List.{List, [], ◌∷◌, ◌++◌}
use Prim.Native.Nat.{ℕ, zero, suc, ◌+◌, ◌*◌, ◌-◌, ◌/◌, ◌%◌, ◌^◌, ◌≤◌, ◌<◌}
use native.Mathlib.Omega.{arith}
use native.Mathlib.Nat.{mod-eq_of_lt, div-eq_of_lt, div-lt_iff_lt-mul, le-div_iff_mul-le, div-div-eq-div-mul, mul-div_cancel, one-le-pow, pow-suc, pow-succ', pow-le-pow_right, one-mul}
use native.Mathlib.Numerals.{add-one}
use lib.Dec.{eqb, leb}
use borrow.Author.Tests.{leb-true, ne_eqb}
use lib.ListN.{length, get_or, drop, set, drop_of_length-le}
use lib.Seq.{drop-cons}
use Rattle.output.specs.Output.{spliced}
use Rattle.output.proofs.Splices.{spliced_none, spliced_last}
use Rattle.text.specs.Decimal.{digits, trimmed, decimal, is_digit, Scanned, scanned, scan, number, FoundAt}
use Rattle.text.proofs.Decimals.{length_digits, trimmed_length}
use Rattle.text.proofs.Texts.{and_left, and_right}

-- ---- how many digits a number has
-- the first of the last digits
head_digit : (k n : ℕ) → digits (suc k) n ≡ (48 + n / 10 ^ k % 10) ∷ digits k n
unfolding digits
head_digit zero n = let e : n / 1 ≡ n = omega arith in rw e
head_digit (suc k) n =
    ap (λ (l : List ℕ). l ++ (48 + n % 10) ∷ []) (head_digit k (n / 10))
    ∙ ap (λ (m : ℕ). (48 + m % 10) ∷ (digits k (n / 10) ++ (48 + n % 10) ∷ [])) (div-div-eq-div-mul n 10 (10 ^ k) ∙ ap (λ (m : ℕ). n / m) (sym (pow-succ' 10 k)))

trimmed_zero : (d k n : ℕ) → d ≡ 48 → trimmed (d ∷ digits (suc k) n) ≡ trimmed (digits (suc k) n)
unfolding trimmed
trimmed_zero d k n e = rw (e, head_digit k n)

no_digits : (n : ℕ) → digits 0 n ≡ []
unfolding digits
no_digits n = refl

trimmed_head : (d k n : ℕ) → eqb d 48 ≡ false → trimmed (d ∷ digits k n) ≡ d ∷ digits k n
unfolding trimmed
trimmed_head d zero n e = rw (no_digits n)
trimmed_head d (suc k) n e = rw (head_digit k n, e)

-- a zero in front
trimmed_shorter : (k n : ℕ) → n < 10 ^ suc k → trimmed (digits (suc (suc k)) n) ≡ trimmed (digits (suc k) n)
trimmed_shorter k n h =
    ap trimmed (head_digit (suc k) n)
    ∙ trimmed_zero (48 + n / 10 ^ suc k % 10) k n (ap (λ (m : ℕ). 48 + m % 10) (div-eq_of_lt h))

-- zeros in front
trimmed_to : (j k n : ℕ) → n < 10 ^ suc k → trimmed (digits (j + suc k) n) ≡ trimmed (digits (suc k) n)
trimmed_to zero k n h = let e : 0 + suc k ≡ suc k = omega arith in ap (λ (m : ℕ). trimmed (digits m n)) e
trimmed_to (suc j) k n h =
    let e : suc j + suc k ≡ suc (suc (j + k)) = omega arith in
    let g : suc (j + k) ≡ j + suc k = omega arith in
    let w : n < 10 ^ suc (j + k) = omega (arith, pow-le-pow_right {n = 10} (omega arith) {i = suc k} {j = suc (j + k)} (omega arith)) in
    ap (λ (m : ℕ). trimmed (digits m n)) e ∙ trimmed_shorter (j + k) n w ∙ ap (λ (m : ℕ). trimmed (digits m n)) g ∙ trimmed_to j k n h

-- a number below a power of ten has no more digits than that
pub decimal_most : (k n : ℕ) → k < 10 → n < 10 ^ suc k → length (decimal n) ≤ suc k
unfolding decimal
decimal_most k n l h =
    let e : 10 ≡ 9 - k + suc k = omega arith in
    let s = ap (λ (m : ℕ). trimmed (digits m n)) e ∙ trimmed_to (9 - k) k n h in
    omega (arith, ap (λ (x : List ℕ). length x) s, trimmed_length (digits (suc k) n), length_digits (suc k) n)

-- none in front
trimmed_full : (k n : ℕ) → 10 ^ k ≤ n → n < 10 ^ suc k → trimmed (digits (suc k) n) ≡ digits (suc k) n
trimmed_full k n l h =
    let some : 1 ≤ n / 10 ^ k = (le-div_iff_mul-le (one-le-pow k 10 (omega arith))).1 (subst (λ (m : ℕ). m ≤ n) (sym (one-mul (10 ^ k))) l) in
    let few : n / 10 ^ k < 10 = (div-lt_iff_lt-mul (one-le-pow k 10 (omega arith))).1 (subst (λ (m : ℕ). n < m) (pow-succ' 10 k) h) in
    let same : n / 10 ^ k % 10 ≡ n / 10 ^ k = mod-eq_of_lt few in
    ap trimmed (head_digit k n)
    ∙ trimmed_head (48 + n / 10 ^ k % 10) k n (ne_eqb (48 + n / 10 ^ k % 10) 48 (λ e. omega arith))
    ∙ sym (head_digit k n)

-- a number has at most k digits, and the power is that of the first of them
pub record Counted (n power k : ℕ) : Type 0 where
  pub some : 1 ≤ k
  pub few : k ≤ 10
  pub is : power ≡ 10 ^ (k - 1)
  pub below : n < 10 ^ k
  pub trim : decimal n ≡ trimmed (digits k n)

pub counted_start : (n : ℕ) → n < 10 ^ 10 → Counted n 1000000000 10
unfolding decimal
counted_start n h = record { some = omega arith; few = omega arith; is = refl; below = h; trim = refl }

pub counted_less : (n power k : ℕ) → 10 ≤ n → n < power → Counted n power k → Counted n (power / 10) (k - 1)
counted_less n power zero g h c = absurd (omega (arith, c.some))
counted_less n power (suc zero) g h c = let one : power ≡ 1 = c.is in absurd (omega arith)
counted_less n power (suc (suc j)) g h c =
    let e : suc (suc j) - 1 ≡ suc j = omega arith in
    let f : suc j - 1 ≡ j = omega arith in
    let p : power ≡ 10 ^ suc j = c.is ∙ ap (λ (m : ℕ). 10 ^ m) e in
    let less : n < 10 ^ suc j = subst (λ (m : ℕ). n < m) p h in
    subst (λ (m : ℕ). Counted n (power / 10) m) (sym e) (record {
      some = omega arith;
      few = omega (arith, c.few);
      is = ap (λ (m : ℕ). m / 10) (p ∙ pow-suc 10 j) ∙ mul-div_cancel (10 ^ j) (omega arith) ∙ ap (λ (m : ℕ). 10 ^ m) (sym f);
      below = less;
      trim = c.trim ∙ trimmed_shorter j n less;
    })

pub counted_end : (n power k : ℕ) → power ≤ n → Counted n power k → decimal n ≡ digits k n
counted_end n power zero h c = absurd (omega (arith, c.some))
counted_end n power (suc k) h c =
    let e : suc k - 1 ≡ k = omega arith in
    c.trim ∙ trimmed_full k n (subst (λ (m : ℕ). m ≤ n) (c.is ∙ ap (λ (m : ℕ). 10 ^ m) e) h) c.below

pub one_digit : (n : ℕ) → n < 10 → decimal n ≡ digits 1 n
unfolding decimal trimmed digits
one_digit n h = let z : n / 10 ≡ 0 = omega arith in rw z

-- ---- digits into a slice, the last one first
pub digit_more : (at n i : ℕ) (l : List ℕ) → 0 < i → at + i ≤ length l → spliced at (digits (i - 1) (n / 10)) (set l (at + (i - 1)) (48 + n % 10)) ≡ spliced at (digits i n) l
unfolding digits
digit_more at n zero l g h = absurd (omega arith)
digit_more at n (suc i) l g h = let e : suc i - 1 ≡ i = omega arith in
    ap (λ (m : ℕ). spliced at (digits m (n / 10)) (set l (at + m) (48 + n % 10))) e
    ∙ spliced_last at (48 + n % 10) i (digits i (n / 10)) l (length_digits i (n / 10)) (omega arith)

pub digits_none : (at n : ℕ) (l : List ℕ) → spliced at (digits 0 n) l ≡ l
unfolding digits
digits_none at n l = spliced_none at l

-- ---- a number out of a text
pub record Scanning (t : List ℕ) (at value next k : ℕ) : Type 0 where
  pub along : next ≡ at + k
  pub few : k ≤ 10
  pub below : value < 10 ^ k
  pub goes : number (drop at t) ≡ scan (10 - k) value (drop next t)

pub scanning_start : (t : List ℕ) (at : ℕ) → Scanning t at 0 at 0
scanning_start t at = record { along = omega arith; few = omega arith; below = omega arith; goes = refl }

scan_none : (k v : ℕ) → scan k v [] ≡ scanned v []
unfolding scan
scan_none zero v = refl
scan_none (suc k) v = refl

scan_other : (k v c : ℕ) (t : List ℕ) → is_digit c ≡ false → scan k v (c ∷ t) ≡ scanned v (c ∷ t)
unfolding scan
scan_other zero v c t h = refl
scan_other (suc k) v c t h = rw h

scan_digit : (k v c : ℕ) (t : List ℕ) → is_digit c ≡ true → scan (suc k) v (c ∷ t) ≡ scan k (10 * v + (c - 48)) t
unfolding scan
scan_digit k v c t h = rw h

small : (v k : ℕ) → v < 10 ^ k → k ≤ 10 → v < 10 ^ 10
small v k h few = omega (arith, pow-le-pow_right {n = 10} (omega arith) few)

room : (v c p q : ℕ) → v < p → q ≡ p * 10 → c ≤ 57 → 10 * v + (c - 48) < q
room v c p q h e top = omega arith

found : (t : List ℕ) (at value next k : ℕ) → Scanning t at value next k → scan (10 - k) value (drop next t) ≡ scanned value (drop next t) → FoundAt t at value next
found t at value next k s e =
    let all = s.goes ∙ e in record {
      is = ap (λ (x : Scanned). x.value) (sym all);
      behind = ap (λ (x : Scanned). x.rest) (sym all);
      near = omega (arith, s.along, s.few);
      short = small value k s.below s.few;
    }

module _ (t : List ℕ) (at value next k : ℕ) (s : Scanning t at value next k) where
  -- the text ends
  pub found_end : length t ≤ next → FoundAt t at value next
  found_end h =
      let e : drop next t ≡ [] = drop_of_length-le t h in
      found t at value next k s (ap (scan (10 - k) value) e ∙ scan_none (10 - k) value ∙ ap (scanned value) (sym e))

  -- something else stands there
  pub found_other : next < length t → is_digit (get_or t next 0) ≡ false → FoundAt t at value next
  found_other h d =
      let e = drop-cons t next 0 h in
      found t at value next k s (ap (scan (10 - k) value) e ∙ scan_other (10 - k) value (get_or t next 0) (drop (suc next) t) d ∙ ap (scanned value) (sym e))

  -- ten digits stand there
  pub found_ten : 10 ≤ k → FoundAt t at value next
  unfolding scan
  found_ten h = let e : 10 - k ≡ 0 = omega arith in found t at value next k s (ap (λ (n : ℕ). scan n value (drop next t)) e)

  -- a digit more
  digit_value : k < 10 → is_digit (get_or t next 0) ≡ true → 10 * value + (get_or t next 0 - 48) < 10 ^ (k + 1)
  digit_value h d =
      let top = leb-true (get_or t next 0) 57 (and_right (leb 48 (get_or t next 0)) (leb (get_or t next 0) 57) d) in
      room value (get_or t next 0) (10 ^ k) (10 ^ (k + 1)) s.below (ap (λ (m : ℕ). 10 ^ m) (add-one k) ∙ pow-suc 10 k) top

  pub scanning_more : k < 10 → next < length t → is_digit (get_or t next 0) ≡ true → Scanning t at (10 * value + (get_or t next 0 - 48)) (next + 1) (k + 1)
  scanning_more h g d =
      let n : 10 - k ≡ suc (10 - (k + 1)) = omega arith in record {
        along = omega (arith, s.along);
        few = omega arith;
        below = digit_value h d;
        goes =
            s.goes ∙ (λ i. scan (n i) value (drop-cons t next 0 g i))
            ∙ scan_digit (10 - (k + 1)) value (get_or t next 0) (drop (suc next) t) d
            ∙ ap (λ (m : ℕ). scan (10 - (k + 1)) (10 * value + (get_or t next 0 - 48)) (drop m t)) (sym (add-one next));
      }

  pub digit_low : is_digit (get_or t next 0) ≡ true → 48 ≤ get_or t next 0
  digit_low d = leb-true 48 (get_or t next 0) (and_left (leb 48 (get_or t next 0)) (leb (get_or t next 0) 57) d)

  pub digit_fits : k < 10 → is_digit (get_or t next 0) ≡ true → 10 * value + (get_or t next 0 - 48) < 10 ^ 10
  digit_fits h d = small (10 * value + (get_or t next 0 - 48)) (k + 1) (digit_value h d) (omega arith)
