-- Where fetches lead. Assumes nothing.
use mathlib.Core.Path.{◌≡◌}
use Prim.Native.Nat.{ℕ, ◌+◌, ◌*◌, ◌≤◌, ◌<◌}
use native.Mathlib.Nat.{mul-mul-mul_comm}
use native.Mathlib.Omega.{arith}
use lib.IntN.{ℤ, pos, nat_abs, ◌+ℤ◌}
use Rattle.std.proofs.Common.{FitsSigned, w32, to_z, of_z}
use Rattle.std.proofs.lemmas.Int.{ints}
use Rattle.geometry.specs.declared.Plane.{Plane}
use Rattle.geometry.proofs.Raster.{raster_below}

-- ---- a column or a row of a fetch, as the code computes it
pub moved : (z : ℤ) (n : ℕ) → FitsSigned w32 z → nat_abs z ≤ 1048591 → n < 8 → to_z w32 (of_z w32 (to_z w32 (of_z w32 z) +ℤ to_z w32 n)) ≡ z +ℤ pos n
moved z n f h k = omega (arith, ints)

-- ---- a sample of a plane lies in the buffer
pub in_plane : (q : Plane) (x y : ℕ) → x < 8 * q.across → y < 8 * q.up → y * (8 * q.across) + x < 64 * (q.up * q.across)
in_plane q x y hx hy = omega (arith, raster_below (8 * q.across) (8 * q.up) x y hx hy, mul-mul-mul_comm 8 q.up 8 q.across)
