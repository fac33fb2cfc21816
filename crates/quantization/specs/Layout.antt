-- How lists lie in lent slices: one after the other, each in 64 elements of its own, zeros behind it.
use Rattle.std.specs.Prelude.{ℕ, List, [], ◌∷◌, ◌++◌, length, take, drop, replicate}

-- the list l at the front of what was there
abbrev pub over : List ℕ → List ℕ → List ℕ
over l old = l ++ drop (length l) old

-- a list in 64 elements, zeros behind it
unfoldable pub padded : List ℕ → List ℕ
padded l = take 64 (l ++ replicate 64 0)

-- lists one after the other, each of them f of a thing
unfoldable pub laid : {A : Type 0} → (A → List ℕ) → List A → List ℕ
laid f [] = []
laid f (x ∷ l) = padded (f x) ++ laid f l
