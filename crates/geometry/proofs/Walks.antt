-- The two walks are walks: one computed test each.
use mathlib.Core.Path.{◌≡◌, refl}
use mathlib.Core.Bool.{Bool, true}
use mathlib.Core.List.{List}
use Prim.Native.Nat.{ℕ, suc, ◌*◌, ◌≤◌, ◌<◌}
use native.Mathlib.Omega.{arith}
use borrow.Author.Tests.{ltb-true, eqb-true}
use lib.Dec.{ltb, eqb}
use lib.ListN.{length, get_or}
use Rattle.geometry.specs.declared.Place.{Place}
use Rattle.geometry.specs.Order.{at, present, find, block_walk, macro_walk}
use Rattle.geometry.specs.Rank.{rank_in}
use Rattle.geometry.proofs.Tests.{both, both_left, both_right, upto, upto_at}
use Rattle.geometry.proofs.Lists.{small}
use Rattle.geometry.proofs.Orders.{Walk}

unfoldable pub same : Place → Place → Bool
same p q = both (eqb p.x q.x) (eqb p.y q.y)

pub same_is : {p q : Place} → same p q ≡ true → p ≡ q
unfolding same
same_is {p} {q} t =
    let a = eqb-true p.x q.x (both_left _ _ t) in
    let b = eqb-true p.y q.y (both_right _ _ t) in
    λ i. record { x = a i; y = b i }

-- the tests in a corner of u by v, whose places are l
test_there : ℕ → ℕ → List Place → ℕ → ℕ → Bool
test_there u v l x y = both (ltb (find x y l) (u * v)) (same (get_or l (find x y l) (at 0 0)) (at x y))

test_back : ℕ → ℕ → List Place → ℕ → Bool
test_back u v l i =
    both (ltb (get_or l i (at 0 0)).x u) (both (ltb (get_or l i (at 0 0)).y v) (eqb (find (get_or l i (at 0 0)).x (get_or l i (at 0 0)).y l) i))

test_corner : ℕ → ℕ → List Place → Bool
test_corner u v l =
    both (eqb (length l) (u * v)) (both (upto u λ x. upto v λ y. test_there u v l x y) (upto (u * v) λ i. test_back u v l i))

test_all : ℕ → List Place → Bool
test_all s walk = upto (suc s) λ u. upto (suc s) λ v. test_corner u v (present u v walk)

module _ (s : ℕ) (walk : List Place) (t : test_all s walk ≡ true) where
  corner : (u v : ℕ) → u ≤ s → v ≤ s → test_corner u v (present u v walk) ≡ true
  unfolding test_all
  corner u v hu hv = upto_at _ _ (upto_at _ _ t u (omega arith)) v (omega arith)

  checked : 0 < s → small s walk ≡ true → Walk s walk (rank_in walk)
  unfolding test_corner test_there test_back rank_in
  checked hs st = record {
    side = hs;
    stays = st;
    all = λ u v hu hv. eqb-true (length (present u v walk)) (u * v) (both_left _ _ (corner u v hu hv));
    there = λ u v x y hu hv hx hy.
        let e = upto_at _ _ (upto_at _ _ (both_left _ _ (both_right _ _ (corner u v hu hv))) x hx) y hy in
        (ltb-true (find x y (present u v walk)) (u * v) (both_left _ _ e), same_is (both_right _ _ e));
    back = λ u v i hu hv hi.
        let e = upto_at _ _ (both_right _ _ (both_right _ _ (corner u v hu hv))) i hi in
        let p = get_or (present u v walk) i (at 0 0) in (
          ltb-true p.x u (both_left _ _ e),
          ltb-true p.y v (both_left _ _ (both_right _ _ e)),
          eqb-true (find p.x p.y (present u v walk)) i (both_right _ _ (both_right _ _ e)),
        );
  }

pub block_walk_law : Walk 4 block_walk (rank_in block_walk)
unfolding both upto same test_all test_corner test_there test_back find present
block_walk_law = checked 4 block_walk refl (omega arith) refl

pub macro_walk_law : Walk 2 macro_walk (rank_in macro_walk)
unfolding both upto same test_all test_corner test_there test_back find present
macro_walk_law = checked 2 macro_walk refl (omega arith) refl
