-- Entries pushed behind others, one by one. Assumes nothing.
use Prim.Native.Nat.{ℕ, ◌+◌, ◌≤◌, ◌<◌}
use native.Mathlib.Omega.{arith}
use mathlib.Core.Path.{◌≡◌, refl, ap, ◌∙◌}
use mathlib.Core.Bool.{Bool, true, false}
use mathlib.Core.List.{List}
use lib.Dec.{eqb}
use lib.ListN.{length, get_or, set}
use lib.Seq.{get_or-set_same, get_or-set_other}
use borrow.Author.Tests.{eqb-true, eqb-false}
use Rattle.tree_pairs.specs.Pair.{Pushed}

pub pushed_none : (l : List ℕ) (d v : ℕ) → Pushed l l d 0 v
pushed_none l d v = record { before = λ k h. refl; there = λ k a b. absurd (omega arith) }

pub pushed_more : (old new : List ℕ) (d n v : ℕ) → d + n < length new → Pushed old new d n v → Pushed old (set new (d + n) v) d (n + 1) v
pushed_more old new d n v h g =
    record {
      before = λ k l. get_or-set_other new (d + n) k v 0 (λ e. absurd (omega (arith, e, l))) ∙ g.before k l;
      there = λ k a b. go k a b (eqb k (d + n)) refl;
    }
  where
    go : (k : ℕ) → d ≤ k → k < d + (n + 1) → (t : Bool) → eqb k (d + n) ≡ t → get_or (set new (d + n) v) k 0 ≡ v
    go k a b true e = ap (λ (j : ℕ). get_or (set new (d + n) v) j 0) (eqb-true k (d + n) e) ∙ get_or-set_same new (d + n) v 0 h
    go k a b false e = get_or-set_other new (d + n) k v 0 (eqb-false k (d + n) e) ∙ g.there k a (omega (arith, b, eqb-false k (d + n) e))
