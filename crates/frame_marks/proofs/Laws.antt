-- Frames that begin with their line, one by one. Assumes nothing.
use Prim.Native.Nat.{ℕ, zero, suc, ◌+◌, ◌*◌, ◌≤◌, ◌<◌}
use native.Mathlib.Omega.{arith}
use native.Mathlib.Nat.{eq-or-lt_of_le}
use mathlib.Core.Path.{◌≡◌, refl, sym, ap, ◌∙◌}
use mathlib.Core.Bool.{Bool, true, false, ◌&&◌}
use mathlib.Core.List.{List}
use mathlib.Core.Logic.{◌⊎◌, inl, inr}
use lib.ListN.{take, drop}
use lib.Seq.{drop-drop}
use Rattle.output.specs.Output.{part}
use Rattle.text.specs.Same.{same}
use Rattle.rows.proofs.Facts.{row_fits}
use Rattle.frame_marks.specs.Marks.{frame_line, marked}

-- n of them fit, and one more
pub more_fits : (k count size : ℕ) → k < count → k * size + size ≤ count * size
more_fits k count size h = row_fits k count size h

marked_last : (w : ℕ) (body : List ℕ) (k : ℕ) → marked w body (suc k) ≡ (marked w body k && same (part body (k * w) 6) frame_line)
unfolding marked
marked_last w body k = refl

and_false : (a b : Bool) → b ≡ false → (a && b) ≡ false
and_false true b h = h
and_false false b h = refl

pub marked_none : (w : ℕ) (body : List ℕ) → marked w body 0 ≡ true
unfolding marked
marked_none w body = refl

pub marked_not : (w : ℕ) (body : List ℕ) (count k : ℕ) → k < count → same (part body (k * w) 6) frame_line ≡ false → marked w body count ≡ false
marked_not w body zero k l h = absurd (omega arith)
marked_not w body (suc c) k l h = marked_last w body c ∙ by (eq-or-lt_of_le (omega arith)) (λ g. marked_not w body c k g h)
  where
    by : (k ≡ c) ⊎ (k < c) → (k < c → marked w body c ≡ false) → (marked w body c && same (part body (c * w) 6) frame_line) ≡ false
    by (inl e) rest = and_false (marked w body c) (same (part body (c * w) 6) frame_line) (ap (λ (m : ℕ). same (part body (m * w) 6) frame_line) (sym e) ∙ h)
    by (inr g) rest = ap (λ (b : Bool). b && same (part body (c * w) 6) frame_line) (rest g)

pub marked_more : (w : ℕ) (body : List ℕ) (k : ℕ) → marked w body k ≡ true → same (part body (k * w) 6) frame_line ≡ true → marked w body (k + 1) ≡ true
marked_more w body k h e =
    let s : k + 1 ≡ suc k = omega arith in
    ap (marked w body) s ∙ marked_last w body k ∙ (λ i. h i && e i)

-- a part of what stands behind a place
pub part_behind : (t : List ℕ) (at k size : ℕ) → part (drop at t) k size ≡ part t (at + k) size
part_behind t at k size = ap (λ (l : List ℕ). take size l) (drop-drop k at t)
