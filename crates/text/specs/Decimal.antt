-- Whole numbers in text: "no leading zeros".
use Rattle.std.specs.Prelude.{ℕ, zero, suc, ◌+◌, ◌*◌, ◌-◌, ◌/◌, ◌%◌, ◌^◌, ◌≤◌, ◌<◌, ◌≡◌, Bool, ◌&&◌, List, [], ◌∷◌, ◌++◌, eqb, leb, drop}
use Rattle.bitstream.specs.Reading.{choose}

-- the last k digits of n, the most significant first
unfoldable pub digits : ℕ → ℕ → List ℕ
digits zero n = []
digits (suc k) n = digits k (n / 10) ++ (48 + n % 10) ∷ []

-- without the zeros in front; the last digit stays
unfoldable pub trimmed : List ℕ → List ℕ
trimmed [] = []
trimmed (d ∷ []) = d ∷ []
trimmed (d ∷ e ∷ l) = choose (eqb d 48) (trimmed (e ∷ l)) (d ∷ e ∷ l)

-- a number of at most ten digits
unfoldable pub decimal : ℕ → List ℕ
decimal n = trimmed (digits 10 n)

abbrev pub is_digit : ℕ → Bool
is_digit c = leb 48 c && leb c 57

-- a number, and the text behind it
pub record Scanned : Type 0 where
  pub value : ℕ
  pub rest : List ℕ

abbrev pub scanned : ℕ → List ℕ → Scanned
scanned v t = record { value = v; rest = t }

-- the digits that a text begins with, at most k of them, behind a number that was read so far
unfoldable pub scan : ℕ → ℕ → List ℕ → Scanned
scan zero v t = scanned v t
scan (suc k) v [] = scanned v []
scan (suc k) v (c ∷ t) = choose (is_digit c) (scan k (10 * v + (c - 48)) t) (scanned v (c ∷ t))

-- the number that a text begins with
abbrev pub number : List ℕ → Scanned
number = scan 10 0

-- what a reader by places says of the number at place `at`
pub record FoundAt (t : List ℕ) (at value next : ℕ) : Type 0 where
  pub is : value ≡ (number (drop at t)).value
  pub behind : drop next t ≡ (number (drop at t)).rest
  pub near : next ≤ at + 10
  pub short : value < 10 ^ 10
