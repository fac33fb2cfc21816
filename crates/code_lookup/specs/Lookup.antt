-- Lookups, which have an entry for each string of eight bits: the token that they tell, and how many of them do.
use Rattle.std.specs.Prelude.{ℕ, zero, suc, ◌+◌, ◌-◌, ◌*◌, ◌/◌, ◌%◌, ◌^◌, List, [], ◌∷◌, ◌++◌, Bool, ◌&&◌, ltb, leb, get_or}
use Rattle.bitstream.specs.Lists.{tabulated}
use Rattle.bitstream.specs.Reading.{choose}

-- how many extra bits the value of the token t says; and whether they are at most three, and among n bits
abbrev pub extra_of : List ℕ → ℕ → ℕ
extra_of values t = get_or values t 0 / 2 ^ 36

abbrev pub extra_in : List ℕ → ℕ → ℕ → Bool
extra_in values n t = leb (extra_of values t) 3 && leb (extra_of values t) n

-- the part of a lookup for the code of the token t, by n bits more of the eight. Its entry j is, where those hold the extra bits too, the complete value that they tell, and else the token's value;
-- and the bits of the code, times 2 ^ 36
abbrev pub leaf_entry : List ℕ → List ℕ → ℕ → ℕ → ℕ → ℕ
leaf_entry values complete n t j = choose (extra_in values n t) (get_or complete (8 * t + j / 2 ^ (n - extra_of values t)) 0) (get_or values t 0) + (8 - n) * 2 ^ 36

unfoldable pub leaf_part : List ℕ → List ℕ → ℕ → ℕ → List ℕ
leaf_part values complete n t = tabulated (leaf_entry values complete n t) 0 (2 ^ n)

-- the part of a lookup for the codes that lead to a node, by n bits more of the eight; 0 where no code ends
unfoldable pub spread : List ℕ → List ℕ → List ℕ → ℕ → ℕ → List ℕ
spread nodes values complete zero node = choose (ltb (get_or nodes (node % 64) 0) 128) (leaf_part values complete zero (get_or nodes (node % 64) 0 % 32)) (0 ∷ [])
spread nodes values complete (suc n) node =
    choose (ltb (get_or nodes (node % 64) 0) 128) (leaf_part values complete (suc n) (get_or nodes (node % 64) 0 % 32))
    (spread nodes values complete n (node % 64 + 1) ++ spread nodes values complete n (get_or nodes (node % 64) 0 - 128))

-- the lookup of a tree by eight bits
abbrev pub lookup_of : List ℕ → List ℕ → List ℕ → List ℕ
lookup_of nodes values complete = spread nodes values complete 8 0
