-- Worked examples; -(n + 1) is `negsuc n`.
-- Assumes nothing.
use mathlib.Core.Path.{◌≡◌, refl}
use mathlib.Core.Bool.{true}
use mathlib.Core.List.{[], ◌∷◌}
use lib.IntN.{pos, negsuc}
use Rattle.numeric.specs.Cut.{mod16, read16, cut}
use Rattle.block_record.specs.declared.BlockRecord.{BlockRecord}
use Rattle.block_record.specs.declared.Prediction.{Prediction}
use Rattle.block_record.specs.declared.Prediction.TheVariants.{None, Previous}
use Rattle.block_record.specs.Record.{reference_of, uncoded}
use Rattle.ways.specs.Loops.{up_to}
use Rattle.dc_neighbours.specs.Means.{far, mean_ldl_d, mean_ldr, mean_dl_ddr, mean_of_two, kept, replaced}
use Rattle.dc_neighbours.specs.Neighbours.{neighbour_at, neighbour_back, predicted}
use Rattle.dc_prediction.specs.Planes.{coded_step, block_step, row, plane}
use Rattle.dc_neighbours.specs.Block.{prediction}

-- 29 · 10 - 26 · 20 + 29 · 30 is 640: 20. With L = 200, DL = 0, D = 200 it is 362, which is far from D: 200. -1 // 2 is 0
replacing : (replaced (pos 10) (pos 20) (pos 30) ≡ pos 20) × (replaced (pos 200) (pos 0) (pos 200) ≡ pos 200) × (mean_of_two (negsuc 0) (pos 0) ≡ pos 0)
unfolding replaced kept far mean_ldl_d mean_of_two
replacing = (refl, refl, refl)

abbrev coded : Prediction → BlockRecord
coded p = record { coded = true; qi_index = 0; prediction = p }

abbrev still : Prediction
still = Previous (record { x = pos 0; y = pos 0 })

-- two rows of three: (0,0) has nothing, (1,0) another reference, (2,0) the last of its own; (1,1) has DL and DR, (2,1) DL of its own
small_plane : plane (coded None ∷ coded still ∷ coded None ∷ uncoded ∷ coded None ∷ coded still ∷ []) 0 3 2 (pos 7 ∷ pos 100 ∷ pos 3 ∷ pos 0 ∷ pos 1 ∷ pos 5 ∷ []) ≡ pos 7 ∷ pos 100 ∷ pos 10 ∷ pos 0 ∷ pos 9 ∷ pos 105 ∷ []
unfolding plane up_to row block_step coded_step prediction predicted neighbour_back neighbour_at reference_of cut read16 mod16 replaced kept far mean_ldl_d mean_ldr mean_dl_ddr mean_of_two
small_plane = refl
