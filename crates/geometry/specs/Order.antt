-- "Block order": the coded order of the blocks of a plane, and of the macro blocks of a frame, as lists of places.
use Rattle.std.specs.Prelude.{Bool, true, false, List, [], ◌∷◌, ◌++◌, ℕ, zero, suc, ◌+◌, ◌*◌, ◌/◌, ◌%◌, ltb, eqb}
use Rattle.geometry.specs.declared.Place.{Place}
use Rattle.geometry.specs.Sizes.{squares}

-- the place in column x and row y
abbrev pub at : ℕ → ℕ → Place
at x y = record { x = x; y = y }

-- "inside, from (0,0), the blocks (x,y): 00 10 11 01 02 03 13 12 22 23 33 32 31 21 20 30"
abbrev pub block_walk : List Place
block_walk =
    at 0 0 ∷ at 1 0 ∷ at 1 1 ∷ at 0 1 ∷ at 0 2 ∷ at 0 3 ∷ at 1 3 ∷ at 1 2
    ∷ at 2 2 ∷ at 2 3 ∷ at 3 3 ∷ at 3 2 ∷ at 3 1 ∷ at 2 1 ∷ at 2 0 ∷ at 3 0 ∷ []

-- "Macro blocks in a super block: lower left, upper left, upper right, lower right"
abbrev pub macro_walk : List Place
macro_walk = at 0 0 ∷ at 0 1 ∷ at 1 1 ∷ at 1 0 ∷ []

-- n lists, one after the other: f 0, then f 1, and so on
unfoldable pub in_turn : {A : Type 0} → (ℕ → List A) → ℕ → List A
in_turn f zero = []
in_turn f (suc n) = in_turn f n ++ f n

abbrev pub keep : Bool → Bool → Place → List Place → List Place
keep true true p ps = p ∷ ps
keep true false p ps = ps
keep false t p ps = ps

-- "absent ones skipped": those of the places that lie in a plane of width w and height h
unfoldable pub present : ℕ → ℕ → List Place → List Place
present w h [] = []
present w h (p ∷ ps) = keep (ltb p.x w) (ltb p.y h) p (present w h ps)

-- the places, dx further right and dy further up
unfoldable pub shifted : ℕ → ℕ → List Place → List Place
shifted dx dy [] = []
shifted dx dy (p ∷ ps) = at (dx + p.x) (dy + p.y) ∷ shifted dx dy ps

-- squares (super blocks) of side s: the one in column a and row b
unfoldable pub square : ℕ → List Place → ℕ → ℕ → ℕ → ℕ → List Place
square s walk w h b a = present w h (shifted (s * a) (s * b) walk)

-- "Super blocks in raster order": a row of them; all rows, from the lowest
unfoldable pub row : ℕ → List Place → ℕ → ℕ → ℕ → List Place
row s walk w h b = in_turn (square s walk w h b) (squares s w)

unfoldable pub ordered : ℕ → List Place → ℕ → ℕ → List Place
ordered s walk w h = in_turn (row s walk w h) (squares s h)

-- a plane of w by h blocks; a frame of w by h macro blocks
abbrev pub block_order : ℕ → ℕ → List Place
block_order w h = ordered 4 block_walk w h

abbrev pub coded_macros : ℕ → ℕ → List Place
coded_macros w h = ordered 2 macro_walk w h

-- square number k, in raster order
abbrev pub square_no : ℕ → List Place → ℕ → ℕ → ℕ → List Place
square_no s walk w h k = square s walk w h (k / squares s w) (k % squares s w)

abbrev pub here : Bool → Bool → ℕ → ℕ
here true true n = 0
here true false n = suc n
here false t n = suc n

-- where (x, y) stands in a list
unfoldable pub find : ℕ → ℕ → List Place → ℕ
find x y [] = 0
find x y (p ∷ ps) = here (eqb p.x x) (eqb p.y y) (find x y ps)
