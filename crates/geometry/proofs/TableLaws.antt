-- The tables hold the ranks and the places of the walks: one computed test each.
use mathlib.Core.Path.{◌≡◌, refl}
use mathlib.Core.Bool.{Bool, true}
use mathlib.Core.List.{List}
use Prim.Native.Nat.{ℕ, zero, suc, ◌+◌, ◌-◌, ◌*◌, ◌/◌, ◌%◌, ◌^◌, ◌≤◌, ◌<◌}
use native.Mathlib.Nat.{mul-le-mul}
use native.Mathlib.Omega.{arith}
use borrow.Author.Tests.{eqb-true}
use lib.Dec.{eqb}
use lib.ListN.{get_or}
use Rattle.geometry.specs.declared.Place.{Place}
use Rattle.geometry.specs.Order.{at, present, find, block_walk}
use Rattle.geometry.specs.Rank.{rank_in, in_corner}
use Rattle.geometry.proofs.Tests.{both, upto, upto_at}
use Rattle.geometry.proofs.Walks.{same, same_is}
use Rattle.geometry.proofs.Tables.{block_rank, block_corner}

-- what a table for squares of side s has at place k of the corner of u by v
abbrev pub slot : ℕ → List ℕ → ℕ → ℕ → ℕ → ℕ
slot s t u v k = get_or t (u * s + v - suc s) 0 / 2 ^ (4 * k) % 16

pub test_rank : ℕ → List Place → List ℕ → Bool
test_rank s walk t = upto (suc s) λ u. upto (suc s) λ v. upto u λ x. upto v λ y. eqb (slot s t u v (y * s + x)) (rank_in walk u v x y)

pub test_corner : ℕ → List Place → List ℕ → Bool
test_corner s walk t = upto (suc s) λ u. upto (suc s) λ v. upto (u * v) λ i. same (at (slot s t u v i % s) (slot s t u v i / s)) (in_corner walk u v i)

module _ (s : ℕ) (walk : List Place) (t : List ℕ) where
  pub ranks : test_rank s walk t ≡ true → (u v x y : ℕ) → u ≤ s → v ≤ s → x < u → y < v → slot s t u v (y * s + x) ≡ rank_in walk u v x y
  unfolding test_rank
  ranks e u v x y hu hv hx hy = eqb-true _ _ (upto_at _ _ (upto_at _ _ (upto_at _ _ (upto_at _ _ e u (omega arith)) v (omega arith)) x hx) y hy)

  pub corners : test_corner s walk t ≡ true → (u v i : ℕ) → u ≤ s → v ≤ s → i < u * v → at (slot s t u v i % s) (slot s t u v i / s) ≡ in_corner walk u v i
  unfolding test_corner
  corners e u v i hu hv hi = same_is (upto_at _ _ (upto_at _ _ (upto_at _ _ e u (omega arith)) v (omega arith)) i hi)

pub block_ranks : test_rank 4 block_walk block_rank ≡ true
unfolding test_rank upto both rank_in find present block_rank
block_ranks = refl

pub block_corners : test_corner 4 block_walk block_corner ≡ true
unfolding test_corner upto both same in_corner present block_corner
block_corners = refl

-- a corner with a place in it has both sides, and holds at most s s places
pub corner_some : (s u v i : ℕ) → u ≤ s → v ≤ s → i < u * v → (0 < u) × (0 < v) × (i < s * s)
corner_some s zero v i hu hv hi = absurd (omega arith)
corner_some s (suc u) zero i hu hv hi = absurd (omega arith)
corner_some s (suc u) (suc v) i hu hv hi = (omega arith, omega arith, omega (arith, mul-le-mul hu hv))
