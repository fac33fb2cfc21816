-- An edge whose samples are all read before any is written: the steps of an edge touch different samples, so the order of reading and writing is free.
-- Assumes nothing.
use mathlib.Core.Path.{◌≡◌, refl, sym, ap, ◌∙◌}
use mathlib.Core.List.{List}
use Prim.Native.Nat.{ℕ, zero, suc, ◌+◌, ◌*◌, ◌/◌, ◌%◌, ◌≤◌, ◌<◌}
use native.Mathlib.Nat.{mul-le-mul_right}
use native.Mathlib.Omega.{arith}
use native.Mathlib.Decide.{ℕ_discrete}
use lib.ListN.{length, get_or, set, length-set}
use lib.Seq.{get_or-set_same, get_or-set_other, set_comm}
use Rattle.ways.specs.Loops.{up_to}
use Rattle.ways.specs.Ways.{across_edge, edge}
use Rattle.ways.specs.Corner.{row_at}
use Rattle.ways.proofs.Steps.{Stays, set_stays, up_to_stays, up_to_same}
use Rattle.edge_filter.specs.Filter.{filtered}
use Rattle.edge_filter.specs.Edge.{crossed, NewSides, Fours, of_four, Pairs, pairs_at, Runs, in_row, in_column}

-- ---- reading first
module _ (L at along step : ℕ) (s : List ℕ) where
  -- the k-th p1 and p2 written, as read from s
  abbrev write : ℕ → List ℕ → List ℕ
  write k t = set (set t (at + k * along + step) (crossed L at along step s k).0) (at + k * along + step * 2) (crossed L at along step s k).1

  -- place i is not among the first n of these
  Free : ℕ → ℕ → Type 0
  Free n i = (k : ℕ) → k < n → (at + k * along + step ≡ i → ⊥) × (at + k * along + step * 2 ≡ i → ⊥)

  free_kept : (n i : ℕ) → Free n i → get_or (up_to n write s) i 0 ≡ get_or s i 0
  unfolding Free
  free_kept n i f = (up_to_stays write n (λ k h. stays k (f k h))).stays s refl
    where
      stays : (k : ℕ) → (at + k * along + step ≡ i → ⊥) × (at + k * along + step * 2 ≡ i → ⊥) → Stays i (get_or s i 0) (write k)
      stays k f = record {
        stays = λ t e.
            (set_stays (at + k * along + step * 2) (crossed L at along step s k).1 (λ q. absurd (f.1 q))).stays (set t (at + k * along + step) (crossed L at along step s k).0)
            ((set_stays (at + k * along + step) (crossed L at along step s k).0 (λ q. absurd (f.0 q))).stays t e);
      }

  record Apart : Type 0 where
    p0 : (n : ℕ) → n < 8 → Free n (at + n * along)
    p1 : (n : ℕ) → n < 8 → Free n (at + n * along + step)
    p2 : (n : ℕ) → n < 8 → Free n (at + n * along + step * 2)
    p3 : (n : ℕ) → n < 8 → Free n (at + n * along + step * 3)

  read_first : Apart → (n : ℕ) → n ≤ 8 → up_to n (λ k. across_edge (filtered L) (at + k * along) step) s ≡ up_to n write s
  unfolding up_to across_edge crossed
  read_first a zero h = refl
  read_first a (suc n) h =
      ap (across_edge (filtered L) (at + n * along) step) (read_first a n (omega arith))
      ∙ same (free_kept n _ (a.p0 n h)) (free_kept n _ (a.p1 n h)) (free_kept n _ (a.p2 n h)) (free_kept n _ (a.p3 n h))
    where
      same : get_or (up_to n write s) (at + n * along) 0 ≡ get_or s (at + n * along) 0
          → get_or (up_to n write s) (at + n * along + step) 0 ≡ get_or s (at + n * along + step) 0
          → get_or (up_to n write s) (at + n * along + step * 2) 0 ≡ get_or s (at + n * along + step * 2) 0
          → get_or (up_to n write s) (at + n * along + step * 3) 0 ≡ get_or s (at + n * along + step * 3) 0
          → across_edge (filtered L) (at + n * along) step (up_to n write s) ≡ write n (up_to n write s)
      same e₀ e₁ e₂ e₃ =
          ap (λ (q : ℕ × ℕ). set (set (up_to n write s) (at + n * along + step) q.0) (at + n * along + step * 2) q.1) (λ i. filtered L (e₀ i) (e₁ i) (e₂ i) (e₃ i))

-- ---- along a row: all p1, then all p2
module _ (L at row : ℕ) (s : List ℕ) (wide : 8 ≤ row) where
  row_apart : Apart L at 1 row s
  unfolding Free
  row_apart = record {
    p0 = λ n h k l. (λ e. omega arith, λ e. omega arith);
    p1 = λ n h k l. (λ e. omega arith, λ e. omega arith);
    p2 = λ n h k l. (λ e. omega arith, λ e. omega arith);
    p3 = λ n h k l. (λ e. omega arith, λ e. omega arith);
  }

  abbrev low : ℕ → List ℕ → List ℕ
  low c t = set t (at + row + c) (crossed L at 1 row s c).0

  abbrev high : ℕ → List ℕ → List ℕ
  high c t = set t (at + row * 2 + c) (crossed L at 1 row s c).1

  -- a store that no p2 meets may come before them
  before_high : (n i v : ℕ) (t : List ℕ) → ((k : ℕ) → k < n → at + row * 2 + k ≡ i → ⊥) → set (up_to n high t) i v ≡ up_to n high (set t i v)
  unfolding up_to
  before_high zero i v t f = refl
  before_high (suc n) i v t f =
      set_comm (up_to n high t) (at + row * 2 + n) i (crossed L at 1 row s n).1 v (f n (omega arith))
      ∙ ap (high n) (before_high n i v t (λ k l. f k (omega arith)))

  in_rows : (n : ℕ) → n ≤ 8 → up_to n (write L at 1 row s) s ≡ up_to n high (up_to n low s)
  unfolding up_to
  in_rows zero h = refl
  in_rows (suc n) h =
      let e₁ : at + n * 1 + row ≡ at + row + n = omega arith in
      let e₂ : at + n * 1 + row * 2 ≡ at + row * 2 + n = omega arith in
      (λ i. set (set (in_rows n (omega arith) i) (e₁ i) (crossed L at 1 row s n).0) (e₂ i) (crossed L at 1 row s n).1)
      ∙ ap (high n) (before_high n (at + row + n) (crossed L at 1 row s n).0 (up_to n low s) (λ k l e. omega arith))

  pub row_edge : (t : List ℕ) → NewSides (crossed L at 1 row s) t
      → row_at (λ c. get_or t (8 + c) 0) (at + row * 2) (row_at (λ c. get_or t (0 + c) 0) (at + row) s) ≡ edge (filtered L) at 1 row s
  unfolding row_at edge
  row_edge t q =
      ap (up_to 8 (λ c u. set u (at + row * 2 + c) (get_or t (8 + c) 0))) (up_to_same 8 (λ c u. set u (at + row + c) (get_or t (0 + c) 0)) low (λ c h u. let z : 0 + c ≡ c = omega arith in ap (set u (at + row + c)) (ap (λ (n : ℕ). get_or t n 0) z ∙ (q.each c h).0)) s)
      ∙ up_to_same 8 (λ c u. set u (at + row * 2 + c) (get_or t (8 + c) 0)) high (λ c h u. ap (set u (at + row * 2 + c)) (q.each c h).1) (up_to 8 low s)
      ∙ sym (in_rows 8 (omega arith))
      ∙ sym (read_first L at 1 row s row_apart 8 (omega arith))

-- ---- along a column: row by row
module _ (L at row : ℕ) (s : List ℕ) (wide : 8 ≤ row) where
  column_apart : Apart L at row 1 s
  unfolding Free
  column_apart = record {
    p0 = λ n h k l. let m : suc k * row ≤ n * row = mul-le-mul_right row l in (λ e. omega arith, λ e. omega arith);
    p1 = λ n h k l. let m : suc k * row ≤ n * row = mul-le-mul_right row l in (λ e. omega arith, λ e. omega arith);
    p2 = λ n h k l. let m : suc k * row ≤ n * row = mul-le-mul_right row l in (λ e. omega arith, λ e. omega arith);
    p3 = λ n h k l. let m : suc k * row ≤ n * row = mul-le-mul_right row l in (λ e. omega arith, λ e. omega arith);
  }

  four_crossed : (t : List ℕ) → Fours s at row t → (k : ℕ) → k < 8 → of_four L (get_or t k 0) ≡ crossed L at row 1 s k
  unfolding crossed
  four_crossed t f k h = let d = f.each k h in λ i. filtered L (d.p0 i) (d.p1 i) (d.p2 i) (d.p3 i)

  pub column_edge : (t r : List ℕ) → Fours s at row t → Pairs L t r → pairs_at r at row s ≡ edge (filtered L) at row 1 s
  unfolding pairs_at edge
  column_edge t r f g =
      up_to_same 8 (λ k u. set (set u (at + k * row + 1) (get_or r k 0 % 256)) (at + k * row + 2) (get_or r k 0 / 256)) (write L at row 1 s)
      (λ k h u. let d = g.each k h in let e = four_crossed t f k h in
      λ i. set (set u (at + k * row + 1) ((d.p1 ∙ ap (λ (q : ℕ × ℕ). q.0) e) i)) (at + k * row + 2) ((d.p2 ∙ ap (λ (q : ℕ × ℕ). q.1) e) i)) s
      ∙ sym (read_first L at row 1 s column_apart 8 (omega arith))

-- ---- which of the two
pub row_runs : (along step : ℕ) → Runs along step → along ≡ 1 → 8 ≤ step
row_runs along step (in_row e h) q = h
row_runs along step (in_column e h) q = omega arith

pub column_runs : (along step : ℕ) → Runs along step → (along ≡ 1 → ⊥) → (step ≡ 1) × (8 ≤ along)
column_runs along step (in_row e h) n = absurd (n e)
column_runs along step (in_column e h) n = (e, h)

-- ---- a list that grows by an element in each half
module _ (q : ℕ → ℕ × ℕ) (t : List ℕ) (i a b : ℕ) (size : length t ≡ 16) (below : i < 8) (e₁ : a ≡ (q i).0) (e₂ : b ≡ (q i).1)
    (h : (j : ℕ) → j < i → (get_or t j 0 ≡ (q j).0) × (get_or t (8 + j) 0 ≡ (q j).1)) where
  pub sides_more : (j : ℕ) → j < i + 1 → (get_or (set (set t i a) (8 + i) b) j 0 ≡ (q j).0) × (get_or (set (set t i a) (8 + i) b) (8 + j) 0 ≡ (q j).1)
  sides_more j k = (get_or-set_other (set t i a) (8 + i) j b 0 (λ e. omega arith) ∙ first (ℕ_discrete j i), second (ℕ_discrete j i))
    where
      first : Dec (j ≡ i) → get_or (set t i a) j 0 ≡ (q j).0
      first (yes e) = ap (λ (m : ℕ). get_or (set t i a) m 0) e ∙ get_or-set_same t i a 0 (omega arith) ∙ e₁ ∙ ap (λ (m : ℕ). (q m).0) (sym e)
      first (no n) = get_or-set_other t i j a 0 n ∙ (h j (omega arith)).0

      second : Dec (j ≡ i) → get_or (set (set t i a) (8 + i) b) (8 + j) 0 ≡ (q j).1
      second (yes e) =
          ap (λ (m : ℕ). get_or (set (set t i a) (8 + i) b) (8 + m) 0) e
          ∙ get_or-set_same (set t i a) (8 + i) b 0 (simp length-set (omega arith)) ∙ e₂ ∙ ap (λ (m : ℕ). (q m).1) (sym e)
      second (no n) =
          get_or-set_other (set t i a) (8 + i) (8 + j) b 0 (λ e. n (omega arith))
          ∙ get_or-set_other t i (8 + j) a 0 (λ e. omega arith) ∙ (h j (omega arith)).1
