-- The report of a census: 34 numbers, and what packets add to them.
use Rattle.std.specs.Prelude.{ℕ, ◌+◌, ◌^◌, ◌≤◌, Bool, true, ◌&&◌, List, [], ◌∷◌, ◌++◌, ltb, set, replicate}

-- packets by kind (3), refusals by number (17), coded and uncoded blocks by plane (3 and 3), macro blocks by mode (8)
abbrev pub report_size : ℕ
report_size = 34

-- ---- where the numbers stand
-- "packets by kind": intra, inter, repeat
abbrev pub kind_at : ℕ → ℕ
kind_at kind = kind

-- "refusals by number (1 too)": 1 to 17
abbrev pub refusal_at : ℕ → ℕ
refusal_at k = 2 + k

-- "coded and uncoded blocks by plane"
abbrev pub coded_at : ℕ → ℕ
coded_at p = 20 + p

abbrev pub uncoded_at : ℕ → ℕ
uncoded_at p = 23 + p

-- "macro blocks by mode": 0 to 7
abbrev pub mode_at : ℕ → ℕ
mode_at m = 26 + m

-- ---- what is added
-- "one call adds to a lent report": number by number
unfoldable pub plus : (l more : List ℕ) → List ℕ
plus [] more = []
plus (n ∷ l) [] = []
plus (n ∷ l) (m ∷ more) = (n + m) ∷ plus l more

abbrev pub nothing : List ℕ
nothing = replicate report_size 0

-- n at one place, nothing elsewhere
abbrev pub only : (at n : ℕ) → List ℕ
only at n = set nothing at n

-- the numbers that the report has a place for
abbrev pub Numbered : ℕ → Type 0
Numbered k = (1 ≤ k) × (k ≤ 17)

-- n packets that are refused by number k
abbrev pub refusal_adds : (k n : ℕ) → List ℕ
refusal_adds k n = only (refusal_at k) n

-- an accepted packet of a kind, with its blocks by plane and its macro blocks by mode
abbrev pub frame_adds : (kind : ℕ) (coded uncoded modes : List ℕ) → List ℕ
frame_adds kind coded uncoded modes = plus (only (kind_at kind) 1) (replicate 20 0 ++ (coded ++ (uncoded ++ modes)))

-- every number has 64 bits
unfoldable pub fits : List ℕ → Bool
fits [] = true
fits (n ∷ l) = ltb n (2 ^ 64) && fits l
