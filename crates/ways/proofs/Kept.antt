-- What the loop filter leaves alone: a sample of an uncoded block that lies along no coded block stays previous's.
-- Assumes nothing.
use mathlib.Core.Path.{◌≡◌, refl, sym, ap, ◌∙◌, transport}
use mathlib.Core.Bool.{Bool, true, false, true≢false, not, cond, Bool-discrete}
use mathlib.Core.List.{List}
use mathlib.Core.Logic.{◌⊎◌, inl, inr, ◌≢◌}
use Prim.Native.Nat.{ℕ, ◌+◌, ◌*◌, ◌-◌, ◌<◌}
use native.Mathlib.Omega.{arith}
use native.Mathlib.Decide.{ℕ_discrete, dec_lt}
use lib.Dec.{ltb}
use lib.ListN.{length, get_or, set}
use borrow.Author.Tests.{ltb-true}
use Rattle.geometry.specs.declared.PixelFormat.{PixelFormat}
use Rattle.geometry.specs.declared.Block.{Block}
use Rattle.geometry.specs.Sizes.{across, up, blocks_of}
use Rattle.geometry.specs.Frame.{block, InFrame}
use Rattle.geometry.specs.Sample.{sample_at}
use Rattle.geometry.proofs.SampleLaws.{sample_once}
use Rattle.ways.specs.Loops.{over, when}
use Rattle.ways.specs.Ways.{Picture, second_way, write_block, across_edge, edge, edges_at, open_right, open_above, edges, only_coded}
use Rattle.ways.specs.Ways.{left_of, right_of, below, above, AlongCoded, at_left, at_right, at_bottom, at_top}
use Rattle.ways.proofs.Steps.{Stays, set_stays, up_to_stays, over_stays, when_stays, kept}
use Rattle.ways.proofs.Where.{Within}
use Rattle.ways.proofs.Corner.{corner, row, left_outer, left_inner, right_outer, right_inner, lower_outer, lower_inner, upper_outer, upper_inner}
use Rattle.ways.proofs.Agree.{raster_coded, uncoded_written}

-- ---- an edge changes p1 and p2 of its 8 fours, and no length
module _ (filtered : ℕ → ℕ → ℕ → ℕ → ℕ × ℕ) where
  across_stays : {j v : ℕ} (at step : ℕ) → at + step ≢ j → at + step * 2 ≢ j → Stays j v (across_edge filtered at step)
  unfolding across_edge
  across_stays at step h₁ h₂ = record {
    stays = λ s e.
        let q = filtered (get_or s at 0) (get_or s (at + step) 0) (get_or s (at + step * 2) 0) (get_or s (at + step * 3) 0) in
        (set_stays (at + step * 2) q.1 (λ t. absurd (h₂ t))).stays (set s (at + step) q.0) ((set_stays (at + step) q.0 (λ t. absurd (h₁ t))).stays s e);
  }

  edge_stays : {j v : ℕ} (at along step : ℕ) → ((k : ℕ) → k < 8 → at + k * along + step ≢ j) → ((k : ℕ) → k < 8 → at + k * along + step * 2 ≢ j)
      → Stays j v (edge filtered at along step)
  unfolding edge
  edge_stays at along step h₁ h₂ = up_to_stays (λ k. across_edge filtered (at + k * along) step) 8 (λ k l. across_stays (at + k * along) step (h₁ k l) (h₂ k l))

  -- what holds of each edge that is wanted holds of all
  edges_at_stay : {j v : ℕ} (corner row : ℕ) (left lower right upper : Bool)
      → (left ≡ true → Stays j v (edge filtered (corner - 2) row 1)) → (lower ≡ true → Stays j v (edge filtered (corner - 2 * row) 1 row))
      → (right ≡ true → Stays j v (edge filtered (corner + 6) row 1)) → (upper ≡ true → Stays j v (edge filtered (corner + 6 * row) 1 row))
      → Stays j v (edges_at filtered corner row left lower right upper)
  unfolding edges_at
  edges_at_stay corner row left lower right upper h₁ h₂ h₃ h₄ = record {
    stays = λ s e.
        let f₁ = when left (edge filtered (corner - 2) row 1) in
        let f₂ = when lower (edge filtered (corner - 2 * row) 1 row) in
        let f₃ = when right (edge filtered (corner + 6) row 1) in
        (when_stays upper h₄).stays (f₃ (f₂ (f₁ s))) ((when_stays right h₃).stays (f₂ (f₁ s)) ((when_stays lower h₂).stays (f₁ s) ((when_stays left h₁).stays s e)));
  }

-- ---- an open neighbour, column or row m of n, is there
pub there : (m n : ℕ) (t : Bool) → cond (ltb m n) t false ≡ true → m < n
there m n t e = go (ltb m n) refl e
  where
    go : (u : Bool) → ltb m n ≡ u → cond u t false ≡ true → m < n
    go true k e = ltb-true _ _ k
    go false k e = absurd (true≢false (sym e))

module _ (f : PixelFormat) (w h : ℕ) (pic : Picture) where
  pub right_there : (b : Block) → open_right f w h pic.coded b ≡ true → b.x + 1 < across f w b.plane
  unfolding open_right
  right_there b e = there (b.x + 1) (across f w b.plane) (not (pic.coded (right_of b))) e

  pub above_there : (b : Block) → open_above f w h pic.coded b ≡ true → b.y + 1 < up f h b.plane
  unfolding open_above
  above_there b e = there (b.y + 1) (up f h b.plane) (not (pic.coded (above b))) e

  -- ---- a sample of an uncoded block, along no coded one
  module _ (b : Block) (c r : ℕ) (o : Within f w h b c r) (t : pic.coded b ≡ false) (n : ¬ AlongCoded f w h pic b c r) where
    abbrev here : ℕ
    here = sample_at f w h b c r

    -- where a coded block stands, or a sample along one, this sample does not
    elsewhere : (a : Block) (c' r' : ℕ) → Within f w h a c' r' → (pic.coded a ≡ true) ⊎ AlongCoded f w h pic a c' r' → sample_at f w h a c' r' ≢ here
    elsewhere a c' r' o' why e = go why
      where
        q : (a ≡ b) × (c' ≡ c) × (r' ≡ r)
        q = sample_once f w h a b c' r' c r o'.inside o'.column o'.row o.inside o.column o.row e

        go : (pic.coded a ≡ true) ⊎ AlongCoded f w h pic a c' r' → ⊥
        go (inl k) = true≢false (sym k ∙ ap pic.coded q.0 ∙ t)
        go (inr k) = n (transport (λ i. AlongCoded f w h pic (q.0 i) (q.1 i) (q.2 i)) k)

    -- the edges of a coded block: each reaches one row or column of it, and one of the neighbour, along it
    module _ (a : Block) (i : InFrame f w h a) (ta : pic.coded a ≡ true) where
      own : (c' r' : ℕ) → c' < 8 → r' < 8 → sample_at f w h a c' r' ≢ here
      own c' r' k l = elsewhere a c' r' (record { inside = i; column = k; row = l }) (inl ta)

      near : (x y c' r' : ℕ) → x < across f w a.plane → y < up f h a.plane → c' < 8 → r' < 8 → AlongCoded f w h pic (block a.plane x y) c' r'
          → sample_at f w h (block a.plane x y) c' r' ≢ here
      near x y c' r' hx hy k l along =
          elsewhere (block a.plane x y) c' r' (record { inside = record { of_three = i.of_three; column = hx; row = hy }; column = k; row = l }) (inr along)

      left_stays : {v : ℕ} → ltb 0 a.x ≡ true → Stays here v (edge pic.filtered (corner f w h a - 2) (row f w h a) 1)
      left_stays e =
          let l : 0 < a.x = ltb-true _ _ e in
          let m = i.column in
          let q : a.x - 1 + 1 ≡ a.x = omega arith in
          let back : pic.coded (right_of (left_of a)) ≡ true = ap (λ (x : ℕ). pic.coded (block a.plane x a.y)) q ∙ ta in
          edge_stays pic.filtered (corner f w h a - 2) (row f w h a) 1
          (λ k u z. near (a.x - 1) a.y 7 k (omega arith) i.row (omega arith) u (at_right refl (omega arith) back) (left_outer f w h a k l ∙ z))
          (λ k u z. own 0 k (omega arith) u (left_inner f w h a k l ∙ z))

      lower_stays : {v : ℕ} → ltb 0 a.y ≡ true → Stays here v (edge pic.filtered (corner f w h a - 2 * row f w h a) 1 (row f w h a))
      lower_stays e =
          let l : 0 < a.y = ltb-true _ _ e in
          let m = i.row in
          let q : a.y - 1 + 1 ≡ a.y = omega arith in
          let back : pic.coded (above (below a)) ≡ true = ap (λ (y : ℕ). pic.coded (block a.plane a.x y)) q ∙ ta in
          edge_stays pic.filtered (corner f w h a - 2 * row f w h a) 1 (row f w h a)
          (λ k u z. near a.x (a.y - 1) k 7 i.column (omega arith) u (omega arith) (at_top refl (omega arith) back) (lower_outer f w h a k l ∙ z))
          (λ k u z. own k 0 u (omega arith) (lower_inner f w h a k l ∙ z))

      right_stays : {v : ℕ} → open_right f w h pic.coded a ≡ true → Stays here v (edge pic.filtered (corner f w h a + 6) (row f w h a) 1)
      right_stays e =
          let l = right_there a e in
          let q : a.x + 1 - 1 ≡ a.x = omega arith in
          let back : pic.coded (left_of (right_of a)) ≡ true = ap (λ (x : ℕ). pic.coded (block a.plane x a.y)) q ∙ ta in
          edge_stays pic.filtered (corner f w h a + 6) (row f w h a) 1
          (λ k u z. own 7 k (omega arith) u (right_inner f w h a k ∙ z))
          (λ k u z. near (a.x + 1) a.y 0 k l i.row (omega arith) u (at_left refl (omega arith) back) (right_outer f w h a k ∙ z))

      upper_stays : {v : ℕ} → open_above f w h pic.coded a ≡ true → Stays here v (edge pic.filtered (corner f w h a + 6 * row f w h a) 1 (row f w h a))
      upper_stays e =
          let l = above_there a e in
          let q : a.y + 1 - 1 ≡ a.y = omega arith in
          let back : pic.coded (below (above a)) ≡ true = ap (λ (y : ℕ). pic.coded (block a.plane a.x y)) q ∙ ta in
          edge_stays pic.filtered (corner f w h a + 6 * row f w h a) 1 (row f w h a)
          (λ k u z. own k 7 u (omega arith) (upper_inner f w h a k ∙ z))
          (λ k u z. near a.x (a.y + 1) k 0 i.column l u (omega arith) (at_bottom refl (omega arith) back) (upper_outer f w h a k ∙ z))

      edges_stay : {v : ℕ} → Stays here v (edges f w h pic.coded pic.filtered a)
      unfolding edges
      edges_stay =
          edges_at_stay pic.filtered (corner f w h a) (row f w h a) (ltb 0 a.x) (ltb 0 a.y) (open_right f w h pic.coded a) (open_above f w h pic.coded a)
          left_stays lower_stays right_stays upper_stays

    -- so it is previous's
    sample_kept : (previous : List ℕ) → length previous ≡ 64 * blocks_of f w h → get_or (second_way f w h pic previous) here 0 ≡ get_or previous here 0
    unfolding second_way
    sample_kept previous len =
        let bs = only_coded f w h pic in
        let all = raster_coded f w h pic in
        kept (over bs (write_block f w h pic) previous) (over_stays (edges f w h pic.coded pic.filtered) bs (λ a m. edges_stay a (all.only a m).0 (all.only a m).1))
        ∙ uncoded_written f w h pic previous len bs all b c r o t

  -- ---- it can be told whether a sample lies along a coded block
  along? : (b : Block) (c r : ℕ) → Dec (AlongCoded f w h pic b c r)
  along? b c r =
      go (both (ℕ_discrete c 0) (dec_lt 0 b.x) (Bool-discrete (pic.coded (left_of b)) true))
      (both (ℕ_discrete c 7) (dec_lt (b.x + 1) (across f w b.plane)) (Bool-discrete (pic.coded (right_of b)) true))
      (both (ℕ_discrete r 0) (dec_lt 0 b.y) (Bool-discrete (pic.coded (below b)) true))
      (both (ℕ_discrete r 7) (dec_lt (b.y + 1) (up f h b.plane)) (Bool-discrete (pic.coded (above b)) true))
    where
      both : {A B C : Type 0} → Dec A → Dec B → Dec C → Dec (A × B × C)
      both (yes a) (yes b) (yes c) = yes (a, b, c)
      both (yes a) (yes b) (no c) = no (λ t. c t.2)
      both (yes a) (no b) e = no (λ t. b t.1)
      both (no a) d e = no (λ t. a t.0)

      L : Type 0
      L = (c ≡ 0) × (0 < b.x) × (pic.coded (left_of b) ≡ true)

      R : Type 0
      R = (c ≡ 7) × (b.x + 1 < across f w b.plane) × (pic.coded (right_of b) ≡ true)

      D : Type 0
      D = (r ≡ 0) × (0 < b.y) × (pic.coded (below b) ≡ true)

      U : Type 0
      U = (r ≡ 7) × (b.y + 1 < up f h b.plane) × (pic.coded (above b) ≡ true)

      nothing : ¬ L → ¬ R → ¬ D → ¬ U → AlongCoded f w h pic b c r → ⊥
      nothing l m d u (at_left x y z) = l (x, y, z)
      nothing l m d u (at_right x y z) = m (x, y, z)
      nothing l m d u (at_bottom x y z) = d (x, y, z)
      nothing l m d u (at_top x y z) = u (x, y, z)

      go : Dec L → Dec R → Dec D → Dec U → Dec (AlongCoded f w h pic b c r)
      go (yes t) m d u = yes (at_left t.0 t.1 t.2)
      go (no l) (yes t) d u = yes (at_right t.0 t.1 t.2)
      go (no l) (no m) (yes t) u = yes (at_bottom t.0 t.1 t.2)
      go (no l) (no m) (no d) (yes t) = yes (at_top t.0 t.1 t.2)
      go (no l) (no m) (no d) (no u) = no (nothing l m d u)

  -- a sample of an uncoded block differs from previous's only in its outermost row or column along an edge shared with a coded block of the same plane
  pub differs_along : (previous : List ℕ) → length previous ≡ 64 * blocks_of f w h → (b : Block) (c r : ℕ) → InFrame f w h b → c < 8 → r < 8 → pic.coded b ≡ false
      → get_or (second_way f w h pic previous) (sample_at f w h b c r) 0 ≢ get_or previous (sample_at f w h b c r) 0 → AlongCoded f w h pic b c r
  differs_along previous len b c r i hc hr t d = go (along? b c r)
    where
      go : Dec (AlongCoded f w h pic b c r) → AlongCoded f w h pic b c r
      go (yes a) = a
      go (no n) = absurd (d (sample_kept b c r (record { inside = i; column = hc; row = hr }) t n previous len))
