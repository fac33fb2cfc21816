-- Lists given by a rule; what holds of every number of a list; lists in which no number stands twice.
use Rattle.std.specs.Prelude.{ℕ, zero, suc, ◌+◌, ◌<◌, ◌≡◌, List, [], ◌∷◌, Bool, false, ◌||◌, eqb}

-- the n values of f from k on
unfoldable pub tabulated : (ℕ → ℕ) → ℕ → ℕ → List ℕ
tabulated f k zero = []
tabulated f k (suc n) = f k ∷ tabulated f (k + 1) n

-- whether k is one of a list of numbers
unfoldable pub among : List ℕ → ℕ → Bool
among [] k = false
among (x ∷ l) k = eqb x k || among l k

-- P holds of every number of a list
pub data All (P : ℕ → Type 0) : List ℕ → Type 0 where
  none : All P []
  one : {x : ℕ} {l : List ℕ} → P x → All P l → All P (x ∷ l)

-- every number of a list is below n
abbrev pub AllBelow : ℕ → List ℕ → Type 0
AllBelow n l = All (λ x. x < n) l

-- two numbers that differ
abbrev pub Other : ℕ → ℕ → Type 0
Other x y = x ≡ y → ⊥

-- no number of a list stands twice
pub data Once : List ℕ → Type 0 where
  empty : Once []
  more : {x : ℕ} {l : List ℕ} → All (Other x) l → Once l → Once (x ∷ l)
