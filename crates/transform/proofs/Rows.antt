-- Rows that are made from the columns of a turned block, one after the other, are the block's.
-- Assumes nothing.
use mathlib.Core.Path.{◌≡◌, refl, sym, ap, subst, ◌∙◌}
use mathlib.Core.Bool.{Bool, true, false}
use mathlib.Core.List.{List}
use Prim.Native.Nat.{ℕ, zero, suc, ◌+◌, ◌*◌, ◌≤◌, ◌<◌}
use native.Mathlib.Nat.{not-suc-le-zero}
use native.Mathlib.Numerals.{add-one}
use native.Mathlib.Omega.{arith}
use borrow.Author.Tests.{ltb-true, ltb-false}
use lib.Dec.{ltb}
use lib.IntN.{ℤ, pos}
use lib.ListN.{length, get_or, set, length-set}
use Rattle.lines.specs.declared.Line.{Line}
use Rattle.lines.specs.Line.{transformed_line}
use Rattle.lines.specs.Places.{line_at, put_line, transform_line}
use Rattle.zig_zag.specs.Placing.{turned}
use Rattle.zig_zag.proofs.Turned.{by_elements, set_other, set_hit, swap, turned_at, turned_length}
use Rattle.transform.specs.Block.{rows}

-- two lists that agree below m
pub record Both (m : ℕ) (a b : List ℤ) : Type 0 where
  pub one : length a ≡ 64
  pub two : length b ≡ 64
  pub agree : (i : ℕ) → i < m → get_or a i (pos 0) ≡ get_or b i (pos 0)

either_agree : (a b : List ℤ) (m i : ℕ) (v : ℤ) (t : Bool) → ltb i m ≡ t → Both m a b → m < 64 → i < m + 1 → get_or (set a m v) i (pos 0) ≡ get_or (set b m v) i (pos 0)
either_agree a b m i v true e h k j =
    let l = ltb-true i m e in
    set_other a m i v (λ d. absurd (omega arith)) ∙ h.agree i l ∙ sym (set_other b m i v (λ d. absurd (omega arith)))
either_agree a b m i v false e h k j =
    let l = ltb-false i m e in
    let d : i ≡ m = omega arith in
    ap (λ (n : ℕ). get_or (set a m v) n (pos 0)) d
    ∙ set_hit a m v (omega (arith, h.one))
    ∙ sym (set_hit b m v (omega (arith, h.two)))
    ∙ ap (λ (n : ℕ). get_or (set b m v) n (pos 0)) (sym d)

grow : (a b : List ℤ) (m n : ℕ) (v : ℤ) → n ≡ m + 1 → m < 64 → Both m a b → Both n (set a m v) (set b m v)
grow a b m n v e k h = record {
  one = length-set a m v ∙ h.one;
  two = length-set b m v ∙ h.two;
  agree = λ i j. either_agree a b m i v (ltb i m) refl h k (omega arith);
}

grow_row : (a b : List ℤ) (m n : ℕ) (l : Line) → n ≡ m + 8 → m + 7 < 64 → Both m a b → Both n (put_line a m 1 l) (put_line b m 1 l)
unfolding put_line
grow_row a b m n l e k h =
    grow _ _ (m + 7) n l.x7 (omega arith) (omega arith)
    (grow _ _ (m + 6) (m + 7) l.x6 (omega arith) (omega arith)
    (grow _ _ (m + 5) (m + 6) l.x5 (omega arith) (omega arith)
    (grow _ _ (m + 4) (m + 5) l.x4 (omega arith) (omega arith)
    (grow _ _ (m + 3) (m + 4) l.x3 (omega arith) (omega arith)
    (grow _ _ (m + 2) (m + 3) l.x2 (omega arith) (omega arith)
    (grow _ _ (m + 1) (m + 2) l.x1 (omega arith) (omega arith) (grow a b m (m + 1) l.x0 refl (omega arith) h)))))))

-- place i has in t what it has in s
record Kept (i : ℕ) (s t : List ℤ) : Type 0 where
  kept : get_or t i (pos 0) ≡ get_or s i (pos 0)

set_kept : (i : ℕ) (s t : List ℤ) (j : ℕ) (v : ℤ) → j < i → Kept i s t → Kept i s (set t j v)
set_kept i s t j v h k = record { kept = set_other t j i v (λ e. absurd (omega arith)) ∙ k.kept }

line_kept : (s : List ℤ) (m i : ℕ) (l : Line) → m + 8 ≤ i → Kept i s (put_line s m 1 l)
unfolding put_line
line_kept s m i l h =
    set_kept i s _ (m + 7) l.x7 (omega arith)
    (set_kept i s _ (m + 6) l.x6 (omega arith)
    (set_kept i s _ (m + 5) l.x5 (omega arith)
    (set_kept i s _ (m + 4) l.x4 (omega arith)
    (set_kept i s _ (m + 3) l.x3 (omega arith)
    (set_kept i s _ (m + 2) l.x2 (omega arith)
    (set_kept i s _ (m + 1) l.x1 (omega arith) (set_kept i s s m l.x0 (omega arith) (record { kept = refl }))))))))

rows_kept : (n : ℕ) (s : List ℤ) (i : ℕ) → n * 8 ≤ i → get_or (rows n s) i (pos 0) ≡ get_or s i (pos 0)
unfolding rows transform_line
rows_kept zero s i h = refl
rows_kept (suc n) s i h = (line_kept (rows n s) (n * 8) i (transformed_line (line_at (rows n s) (n * 8) 1)) (omega arith)).kept ∙ rows_kept n s i (omega arith)

row_at : (s : List ℤ) (n i k : ℕ) → i < 64 → n * 8 ≤ i → swap i ≡ k → get_or (rows n (turned s)) i (pos 0) ≡ get_or s k (pos 0)
row_at s n i k h l e = rows_kept n (turned s) i l ∙ turned_at s i h ∙ ap (λ (j : ℕ). get_or s j (pos 0)) e

-- row n, which no row before changed, is column n of the turned block
row_is : (s : List ℤ) (n : ℕ) → n < 8 → line_at (rows n (turned s)) (n * 8) 1 ≡ line_at s n 8
unfolding line_at
row_is s n h =
    λ i. record {
      x0 = row_at s n (n * 8) n (omega arith) (omega arith) (omega arith) i;
      x1 = row_at s n (n * 8 + 1) (n + 8) (omega arith) (omega arith) (omega arith) i;
      x2 = row_at s n (n * 8 + 2) (n + 16) (omega arith) (omega arith) (omega arith) i;
      x3 = row_at s n (n * 8 + 3) (n + 24) (omega arith) (omega arith) (omega arith) i;
      x4 = row_at s n (n * 8 + 4) (n + 32) (omega arith) (omega arith) (omega arith) i;
      x5 = row_at s n (n * 8 + 5) (n + 40) (omega arith) (omega arith) (omega arith) i;
      x6 = row_at s n (n * 8 + 6) (n + 48) (omega arith) (omega arith) (omega arith) i;
      x7 = row_at s n (n * 8 + 7) (n + 56) (omega arith) (omega arith) (omega arith) i;
    }

-- no row yet
pub no_row : (out s : List ℤ) → length out ≡ 64 → Both 0 out (rows 0 (turned s))
unfolding rows
no_row out s e = record { one = e; two = turned_length s; agree = λ i h. absurd (not-suc-le-zero h) }

-- one more
pub next_row : (out s : List ℤ) (n : ℕ) (l : Line) → n < 8 → l ≡ transformed_line (line_at s n 8) → Both (n * 8) out (rows n (turned s)) → Both ((n + 1) * 8) (put_line out (n * 8) 1 l) (rows (n + 1) (turned s))
unfolding rows transform_line
next_row out s n l h e b =
    let r =
    ap (λ (k : ℕ). rows k (turned s)) (add-one n) ∙ ap (put_line (rows n (turned s)) (n * 8) 1) (ap transformed_line (row_is s n h) ∙ sym e) in
    subst (Both ((n + 1) * 8) (put_line out (n * 8) 1 l)) (sym r) (grow_row out (rows n (turned s)) (n * 8) ((n + 1) * 8) l (omega arith) (omega arith) b)

-- all
pub all_rows : (out s : List ℤ) → Both 64 out (rows 8 (turned s)) → out ≡ rows 8 (turned s)
all_rows out s b = by_elements out (rows 8 (turned s)) (b.one ∙ sym b.two) (λ i h. b.agree i (omega (arith, b.one)))
