-- Worked examples; -(n + 1) is `negsuc n`.
-- Assumes nothing.
use mathlib.Core.Path.{◌≡◌, refl}
use lib.IntN.{pos, negsuc}
use Rattle.numeric.specs.Cut.{mod16, read16, cut}
use Rattle.transform.specs.Residual.{dc_only}

-- DC-only, q 16: -1 gives -1, 1 gives 0
dc_only_16 : (dc_only (negsuc 0) 16 ≡ negsuc 0) × (dc_only (pos 1) 16 ≡ pos 0)
unfolding dc_only cut read16 mod16
dc_only_16 = (refl, refl)
