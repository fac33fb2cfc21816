-- A number that was written is read: `number-decimal`. Assumes nothing.
use mathlib.Core.Path.{◌≡◌, refl, ap, ◌∙◌, subst}
use mathlib.Core.Bool.{Bool, true, false}
use mathlib.Core.List.{List, [], ◌∷◌, ◌++◌}
use Prim.Native.Nat.{ℕ, zero, suc, ◌+◌, ◌*◌, ◌-◌, ◌/◌, ◌%◌, ◌^◌, ◌≤◌, ◌<◌}
use native.Mathlib.Omega.{arith}
use native.Mathlib.Nat.{mod-lt, div-add-mod, div-lt_iff_lt-mul, pow-suc}
use lib.Dec.{eqb}
use borrow.Author.Tests.{le-leb, eqb-true}
use lib.ListN.{length, length-append}
use Rattle.bitstream.specs.Reading.{choose}
use Rattle.text.specs.Decimal.{digits, trimmed, decimal, is_digit, scanned, scan, number}

-- what digits say, behind a number that was read so far
unfoldable pub value_of : ℕ → List ℕ → ℕ
value_of v [] = v
value_of v (c ∷ t) = value_of (10 * v + (c - 48)) t

abbrev pub AllDigits : List ℕ → Type 0
AllDigits [] = Unit {0}
AllDigits (c ∷ t) = (is_digit c ≡ true) × AllDigits t

-- a text that does not begin with a digit
abbrev pub NoDigit : List ℕ → Type 0
NoDigit [] = Unit {0}
NoDigit (c ∷ t) = is_digit c ≡ false

-- ---- digits, and then something else
pub scan_all : (l t : List ℕ) (k v : ℕ) → AllDigits l → NoDigit t → length l ≤ k → scan k v (l ++ t) ≡ scanned (value_of v l) t
unfolding scan value_of
scan_all [] t zero v a n h = refl
scan_all [] [] (suc k) v a n h = refl
scan_all [] (c ∷ t) (suc k) v a n h = rw n
scan_all (c ∷ l) t zero v a n h = absurd (omega arith)
scan_all (c ∷ l) t (suc k) v a n h = rw a.0 (scan_all l t k (10 * v + (c - 48)) a.1 n (omega arith))

-- ---- the digits of a number
all_append : (l m : List ℕ) → AllDigits l → AllDigits m → AllDigits (l ++ m)
all_append [] m a b = b
all_append (c ∷ l) m a b = (a.0, all_append l m a.1 b)

digit_is : (d : ℕ) → d < 10 → is_digit (48 + d) ≡ true
digit_is d h = rw (le-leb 48 (48 + d) (omega arith)) (le-leb (48 + d) 57 (omega arith))

digits_all : (k n : ℕ) → AllDigits (digits k n)
unfolding digits
digits_all zero n = tt
digits_all (suc k) n = all_append (digits k (n / 10)) ((48 + n % 10) ∷ []) (digits_all k (n / 10)) (digit_is (n % 10) (mod-lt n (omega arith)), tt)

value_append : (v : ℕ) (l m : List ℕ) → value_of v (l ++ m) ≡ value_of (value_of v l) m
unfolding value_of
value_append v [] m = refl
value_append v (c ∷ l) m = value_append (10 * v + (c - 48)) l m

digits_value : (k n : ℕ) → n < 10 ^ k → value_of 0 (digits k n) ≡ n
unfolding digits value_of
digits_value zero n h = omega arith
digits_value (suc k) n h =
    value_append 0 (digits k (n / 10)) ((48 + n % 10) ∷ [])
    ∙ ap (λ (x : ℕ). 10 * x + (48 + n % 10 - 48)) (digits_value k (n / 10) ((div-lt_iff_lt-mul (omega arith)).1 (subst (λ (m : ℕ). n < m) (pow-suc 10 k) h)))
    ∙ omega (arith, div-add-mod n 10)

pub length_digits : (k n : ℕ) → length (digits k n) ≡ k
unfolding digits
length_digits zero n = refl
length_digits (suc k) n = length-append (digits k (n / 10)) ((48 + n % 10) ∷ []) ∙ omega (arith, length_digits k (n / 10))

-- ---- without the zeros in front
value_by : (d e : ℕ) (l m : List ℕ) (b : Bool) → eqb d 48 ≡ b → value_of 0 m ≡ value_of 0 (e ∷ l) → value_of 0 (choose b m (d ∷ e ∷ l)) ≡ value_of 0 (d ∷ e ∷ l)
unfolding value_of
value_by d e l m true h same = let z : 0 ≡ 10 * 0 + (d - 48) = omega (arith, eqb-true d 48 h) in same ∙ ap (λ (x : ℕ). value_of x (e ∷ l)) z
value_by d e l m false h same = refl

trimmed_value : (l : List ℕ) → value_of 0 (trimmed l) ≡ value_of 0 l
unfolding trimmed
trimmed_value [] = refl
trimmed_value (d ∷ []) = refl
trimmed_value (d ∷ e ∷ l) = value_by d e l (trimmed (e ∷ l)) (eqb d 48) refl (trimmed_value (e ∷ l))

-- whichever is chosen
either : (P : List ℕ → Type 0) (b : Bool) (l m : List ℕ) → P l → P m → P (choose b l m)
either P true l m x y = x
either P false l m x y = y

trimmed_all : (l : List ℕ) → AllDigits l → AllDigits (trimmed l)
unfolding trimmed
trimmed_all [] a = a
trimmed_all (d ∷ []) a = a
trimmed_all (d ∷ e ∷ l) a = either AllDigits (eqb d 48) (trimmed (e ∷ l)) (d ∷ e ∷ l) (trimmed_all (e ∷ l) a.1) a

pub trimmed_length : (l : List ℕ) → length (trimmed l) ≤ length l
unfolding trimmed
trimmed_length [] = omega arith
trimmed_length (d ∷ []) = omega arith
trimmed_length (d ∷ e ∷ l) =
    either (λ m. length m ≤ length (d ∷ e ∷ l)) (eqb d 48) (trimmed (e ∷ l)) (d ∷ e ∷ l) (omega (arith, trimmed_length (e ∷ l))) (omega arith)

-- a number that was written is read, whatever stands behind it that is no digit
pub number_decimal : (n : ℕ) (t : List ℕ) → n < 10 ^ 10 → NoDigit t → number (decimal n ++ t) ≡ scanned n t
unfolding decimal
number_decimal n t h nd =
    scan_all (trimmed (digits 10 n)) t 10 0 (trimmed_all (digits 10 n) (digits_all 10 n)) nd (omega (arith, trimmed_length (digits 10 n), length_digits 10 n))
    ∙ ap (λ (v : ℕ). scanned v t) (trimmed_value (digits 10 n) ∙ digits_value 10 n h)

-- at most ten digits
pub decimal_length : (n : ℕ) → length (decimal n) ≤ 10
unfolding decimal
decimal_length n = omega (arith, trimmed_length (digits 10 n), length_digits 10 n)
