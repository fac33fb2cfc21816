-- Worked values: those of 01's table, and a block whose left and lower edge do not commute, held to an independent program.
use mathlib.Core.Path.{◌≡◌, refl}
use mathlib.Core.Bool.{true, false}
use mathlib.Core.List.{List, [], ◌∷◌}
use Prim.Native.Nat.{ℕ, zero, suc, ◌+◌, ◌*◌, ◌%◌}
use lib.IntN.{pos, negsuc}
use Rattle.numeric.specs.Clamp.{clamp255}
use Rattle.ways.specs.Loops.{up_to}
use Rattle.ways.specs.Ways.{across_edge, edge, edges_at}
use Rattle.edge_filter.specs.Filter.{response_of, tent_of, limited_of, filtered}

-- "L=10: R=15 gives 5, −15 gives −5, 20 gives 0"
pub limit_10_at_15 : limited_of 10 (pos 15) ≡ pos 5
unfolding limited_of tent_of
limit_10_at_15 = refl

pub limit_10_at_minus_15 : limited_of 10 (negsuc 14) ≡ negsuc 4
unfolding limited_of tent_of
limit_10_at_minus_15 = refl

pub limit_10_at_20 : limited_of 10 (pos 20) ≡ pos 0
unfolding limited_of tent_of
limit_10_at_20 = refl

-- ---- the order of the edges: 10 rows of 10 samples, and a block in their upper right corner
samples : ℕ → ℕ → List ℕ
samples zero i = []
samples (suc n) i = ((i * i * 3 + i) % 32 + 100) ∷ samples n (i + 1)

checksum : ℕ → List ℕ → ℕ
checksum a [] = a
checksum a (v ∷ vs) = checksum ((a * 31 + v) % 65521) vs

-- the left edge, then the lower one, as the definition has them
left_then_lower : checksum 0 (edges_at (filtered 10) 22 10 true true false false (samples 100 0)) ≡ 23924
unfolding samples checksum edges_at edge up_to across_edge filtered limited_of tent_of response_of clamp255
left_then_lower = refl

-- the other order makes another picture
lower_then_left : checksum 0 (edge (filtered 10) 20 10 1 (edge (filtered 10) 2 1 10 (samples 100 0))) ≡ 39869
unfolding samples checksum edge up_to across_edge filtered limited_of tent_of response_of clamp255
lower_then_left = refl
