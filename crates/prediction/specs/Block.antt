-- A predicted block as the code comes to it: where its fetches begin, and the sums from there.
use Rattle.std.specs.Prelude.{cond, Option, Some, None, List, ℕ, ◌+◌, ◌*◌, leb, ℤ, pos, negsuc, ◌+ℤ◌, get_or}
use Rattle.numeric.specs.Clamp.{clamp255}
use Rattle.geometry.specs.declared.Plane.{Plane}
use Rattle.fetches.specs.Fetched.{mean}

-- a prediction with residual i of the block
unfoldable pub with_residual : List ℤ → ℕ → ℕ → ℕ
with_residual residual i p = clamp255 (pos p +ℤ get_or residual i (pos 0))

-- the mean of what a source has at i and at j
abbrev pub mean_of : List ℕ → ℕ → ℕ → ℕ
mean_of s i j = mean (get_or s i 0) (get_or s j 0)

-- where a fetch that begins in column x and row y starts in the buffer, if its 8 by 8 samples lie in the plane
unfoldable pub start_of : Plane → ℤ → ℤ → Option ℕ
start_of q (pos n) (pos m) =
    cond (leb (n + 8) (8 * q.across)) (cond (leb (m + 8) (8 * q.up)) (Some (q.offset + (m * (8 * q.across) + n))) None) None
start_of q (pos n) (negsuc m) = None
start_of q (negsuc n) y = None
