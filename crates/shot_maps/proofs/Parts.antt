-- Lists of parts of one length: where a part ends, and a part that is changed. Assumes nothing.
use Prim.Native.Nat.{ℕ, suc, ◌+◌, ◌-◌, ◌*◌, ◌≤◌, ◌<◌}
use native.Mathlib.Nat.{mul-le-mul_left, mul-suc}
use native.Mathlib.Omega.{arith}
use mathlib.Core.Path.{◌≡◌, ap, ◌∙◌}
use mathlib.Core.List.{List, ◌++◌}
use lib.ListN.{length, take}
use borrow.Rule.Slice.PartMut.{mid_of, post_of, Post-is, mid_len}
use Rattle.shot_maps.specs.Maps.{with_part}

-- part i of l parts ends in them
pub part_ends : (n i l : ℕ) → i < l → n * i + n ≤ n * l
part_ends n i l h = omega (arith, mul-le-mul_left {m = suc i} {n = l} n (omega arith), mul-suc n i)

-- part i, lent and changed
module _ (r n i : ℕ) (e : r ≡ n) (list : List ℕ) where
  size : r * i + r - r * i ≡ r
  size = omega arith

  pub part_long : n * i + n ≤ length list → length (mid_of (r * i) (r * i + r - r * i) list) ≡ n
  part_long h = mid_len (r * i) (r * i + r) list (rw e h) ∙ size ∙ e

  pub part_changed : (change : List ℕ → List ℕ) (part : List ℕ) → part ≡ change (mid_of (r * i) (r * i + r - r * i) list)
      → take (r * i) list ++ (part ++ post_of (r * i) (r * i + r - r * i) list) ≡ with_part n i change list
  part_changed change part q =
      (λ j. take (r * i) list ++ ((q ∙ ap (λ (k : ℕ). change (mid_of (r * i) k list)) size) j ++ Post-is (r * i) (r * i + r) list (omega arith) j))
      ∙ ap (λ (n : ℕ). with_part n i change list) e
