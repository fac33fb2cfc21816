-- Where a vector leads, what is fetched there, and where a fetch that lies in the plane starts.
-- Assumes nothing.
use mathlib.Core.Path.{◌≡◌, refl, sym, ap, ◌∙◌}
use mathlib.Core.Bool.{Bool, true, false, cond}
use mathlib.Core.List.{List}
use Prim.Native.Nat.{ℕ, ◌+◌, ◌*◌, ◌≤◌, ◌<◌}
use native.Mathlib.Nat.{mul-le-mul}
use native.Mathlib.Omega.{arith}
use borrow.Author.Tests.{leb-true}
use lib.Dec.{leb}
use lib.IntN.{ℤ, pos, negsuc, ◌+ℤ◌}
use lib.ListN.{length, get_or, set, replicate, get_or-replicate}
use Rattle.numeric.proofs.Linear.{parts_add, ext}
use Rattle.geometry.specs.declared.PixelFormat.{PixelFormat}
use Rattle.geometry.specs.declared.Plane.{Plane}
use Rattle.geometry.specs.declared.Block.{Block}
use Rattle.geometry.specs.Sizes.{across, up, blocks_before, blocks_of, plane_of}
use Rattle.geometry.specs.Frame.{InFrame}
use Rattle.geometry.specs.Sample.{sample_at}
use Rattle.geometry.proofs.SizeLaws.{plane_of_small, before_next, before_to, across_small, up_small}
use Rattle.geometry.proofs.SampleLaws.{sample_below}
use Rattle.ways.specs.Loops.{up_to}
use Rattle.ways.specs.Corner.{row_at, block_at}
use Rattle.ways.proofs.Corner.{from_corner}
use Rattle.ways.proofs.Steps.{Stays, Puts, Long, set_stays, set_puts, set_long, up_to_stays, up_to_puts, up_to_long, up_to_same}
use Rattle.block_record.specs.declared.Vector.{Vector}
use Rattle.block_record.specs.declared.Prediction.{Prediction}
use Rattle.block_record.specs.declared.Prediction.TheVariants.{None, Previous, Golden}
use Rattle.fetches.specs.declared.Fetches.{Fetches}
use Rattle.std.specs.Prelude.{Some, None as Outside}
use Rattle.fetches.specs.Motion.{subsampled_across, subsampled_up, steps, down, rounded_up, inside, fetch}
use Rattle.prediction.specs.Predicted.{fetched, moved, predicted, summed}
use Rattle.prediction.specs.Block.{with_residual, mean_of, start_of}
use Rattle.fetches.specs.Fetched.{mean, Small, Lies, fetches_of, mean_at, RowByRow}
use Rattle.fetches.proofs.Leads.{in_plane}

pub plane_size : (q : Plane) → Small q → 64 * (q.up * q.across) ≤ 1099478073600
plane_size q l = omega (arith, mul-le-mul l.up_small l.across_small)

-- ---- a fetch that lies in the plane
record Inner (q : Plane) (x y : ℤ) (a : ℕ) : Type 0 where
  n : ℕ
  m : ℕ
  is_x : x ≡ pos n
  is_y : y ≡ pos m
  column : n + 8 ≤ 8 * q.across
  row : m + 8 ≤ 8 * q.up
  place : q.offset + (m * (8 * q.across) + n) ≡ a

inner : (q : Plane) (x y : ℤ) (a : ℕ) → start_of q x y ≡ Some a → Inner q x y a
unfolding start_of
inner q (pos n) (pos m) a e = go (leb (n + 8) (8 * q.across)) (leb (m + 8) (8 * q.up)) refl refl e
  where
    go : (t u : Bool) → leb (n + 8) (8 * q.across) ≡ t → leb (m + 8) (8 * q.up) ≡ u
        → cond t (cond u (Some (q.offset + (m * (8 * q.across) + n))) Outside) Outside ≡ Some a → Inner q (pos n) (pos m) a
    go true true t u k = record { n = n; m = m; is_x = refl; is_y = refl; column = leb-true _ _ t; row = leb-true _ _ u; place = cc }
    go true false t u k = absurd (let z : ◌≡◌ {A = ℕ} 0 1 = cc in omega arith)
    go false u t v k = absurd (let z : ◌≡◌ {A = ℕ} 0 1 = cc in omega arith)
inner q (pos n) (negsuc m) a e = absurd (let z : ◌≡◌ {A = ℕ} 0 1 = cc in omega arith)
inner q (negsuc n) y a e = absurd (let z : ◌≡◌ {A = ℕ} 0 1 = cc in omega arith)

inside_same : (size n : ℕ) → n < size → inside size (pos n) ≡ n
unfolding inside
inside_same size n h = omega arith

module _ (q : Plane) (x y : ℤ) (a : ℕ) (e : start_of q x y ≡ Some a) where
  -- it starts early enough
  pub inner_end : a + 7 * (8 * q.across) + 8 ≤ q.offset + 64 * (q.up * q.across)
  inner_end =
      let t = inner q x y a e in
      let l = t.column in
      let k = t.row in
      let i = in_plane q (t.n + 7) (t.m + 7) (omega arith) (omega arith) in
      omega (arith, i, t.place)

  -- and its samples are those from there on
  pub inner_fetch : (s : List ℕ) (c r : ℕ) → c < 8 → r < 8 → fetch q s (x +ℤ pos c) (y +ℤ pos r) ≡ get_or s (a + r * (8 * q.across) + c) 0
  unfolding fetch
  inner_fetch s c r hc hr =
      let t = inner q x y a e in
      let l = t.column in
      let k = t.row in
      let f : inside (8 * q.across) (x +ℤ pos c) ≡ t.n + c = ap (λ (v : ℤ). inside (8 * q.across) (v +ℤ pos c)) t.is_x ∙ inside_same (8 * q.across) (t.n + c) (omega arith) in
      let g : inside (8 * q.up) (y +ℤ pos r) ≡ t.m + r = ap (λ (v : ℤ). inside (8 * q.up) (v +ℤ pos r)) t.is_y ∙ inside_same (8 * q.up) (t.m + r) (omega arith) in
      let p : q.offset + ((t.m + r) * (8 * q.across) + (t.n + c)) ≡ a + r * (8 * q.across) + c = omega (arith, t.place) in
      (λ i. get_or s (q.offset + (g i * (8 * q.across) + f i)) 0) ∙ ap (λ (j : ℕ). get_or s j 0) p

-- ---- samples of a block
pub mean_same : (n : ℕ) → mean n n ≡ n
mean_same n = omega arith

-- writing the same samples
pub block_same : (f g : ℕ → ℕ → ℕ) (corner row : ℕ) (s : List ℕ) → ((c r : ℕ) → c < 8 → r < 8 → f c r ≡ g c r) → block_at f corner row s ≡ block_at g corner row s
unfolding block_at row_at
block_same f g corner row s h =
    up_to_same 8 (λ r. up_to 8 (λ c s. set s (corner + r * row + c) (f c r))) (λ r. up_to 8 (λ c s. set s (corner + r * row + c) (g c r)))
    (λ r l. up_to_same 8 (λ c s. set s (corner + r * row + c) (f c r)) (λ c s. set s (corner + r * row + c) (g c r))
    (λ c k s. ap (set s (corner + r * row + c)) (h c r k l))) s

-- rows of 8, one after the other: each sample stands in its place
pub rows_are : (f : ℕ → ℕ → ℕ) (s t : List ℕ) → length s ≡ 64 → t ≡ up_to 8 (λ r. row_at (λ c. f c r) (r * 8)) s → RowByRow f t
unfolding row_at
rows_are f s t l e = record { each = λ c r hc hr. ap (λ (t : List ℕ). get_or t (r * 8 + c) 0) e ∙ (at c r hc hr).puts s (omega arith) }
  where
    at : (c r : ℕ) → c < 8 → r < 8 → Puts (r * 8 + c) (f c r) (up_to 8 (λ r. up_to 8 (λ c s. set s (r * 8 + c) (f c r))))
    at c r hc hr =
        let here : (r' c' : ℕ) → r' * 8 + c' ≡ r * 8 + c → c' < 8 → f c' r' ≡ f c r =
        λ r' c' e k. let x : c' ≡ c = omega arith in let y : r' ≡ r = omega arith in λ i. f (x i) (y i) in
        let stays : (r' : ℕ) → r' < 8 → (c' : ℕ) → c' < 8 → Stays (r * 8 + c) (f c r) (λ s. set s (r' * 8 + c') (f c' r')) =
        λ r' l c' k. set_stays (r' * 8 + c') (f c' r') (λ e. here r' c' e k) in
        let long : (r' c' : ℕ) → Long (λ s. set s (r' * 8 + c') (f c' r')) = λ r' c'. set_long (r' * 8 + c') (f c' r') in
        up_to_puts (λ r. up_to 8 (λ c s. set s (r * 8 + c) (f c r))) 8 (λ r' l. up_to_stays (λ c s. set s (r' * 8 + c) (f c r')) 8 (stays r' l)) (λ r'. up_to_long (λ c s. set s (r' * 8 + c) (f c r')) 8 (long r')) r hr
        (up_to_puts (λ c' s. set s (r * 8 + c') (f c' r)) 8 (stays r hr) (long r) c hc (set_puts (r * 8 + c) (f c r) refl refl))

module _ (m : List ℕ) (c r : ℕ) (hc : c < 8) (hr : r < 8) where
  -- the mean of a list of samples with itself
  pub of_means : (f : ℕ → ℕ → ℕ) → RowByRow f m → mean_of m (0 + r * 8 + c) (0 + r * 8 + c) ≡ f c r
  of_means f h =
      let i : 0 + r * 8 + c ≡ r * 8 + c = omega arith in
      mean_same (get_or m (0 + r * 8 + c) 0) ∙ ap (λ (n : ℕ). get_or m n 0) i ∙ h.each c r hc hr

  -- and of a source of which both fetches lie in the plane
  pub of_inner : (q : Plane) (t : Fetches) (a b : ℕ) → start_of q t.x1 t.y1 ≡ Some a → start_of q t.x2 t.y2 ≡ Some b
      → mean_of m (a + r * (8 * q.across) + c) (b + r * (8 * q.across) + c) ≡ mean_at q m t c r
  unfolding mean_at
  of_inner q t a b e g =
      let j = inner_fetch q t.x1 t.y1 a e m c r hc hr in
      let k = inner_fetch q t.x2 t.y2 b g m c r hc hr in
      sym (λ i. mean (j i) (k i))

-- 128 everywhere
pub of_grey : (c r : ℕ) → c < 8 → r < 8 → mean_of (replicate 64 128) (0 + r * 8 + c) (0 + r * 8 + c) ≡ 128
of_grey c r hc hr = mean_same (get_or (replicate 64 128) (0 + r * 8 + c) 0) ∙ get_or-replicate 64 (0 + r * 8 + c) 128 0 (omega arith)

-- ---- the definition's samples
shift : (n c : ℕ) (z : ℤ) → pos n +ℤ z +ℤ pos c ≡ pos (n + c) +ℤ z
shift n c z = ext (pos n +ℤ z +ℤ pos c) (pos (n + c) +ℤ z) (omega (arith, parts_add (pos n) z, parts_add (pos n +ℤ z) (pos c), parts_add (pos (n + c)) z))

module _ (f : PixelFormat) (w h : ℕ) (b : Block) where
  pub moved_is : (q : Plane) (t : Fetches) (s : List ℕ) (v : Vector) → q ≡ plane_of f w h b.plane → t ≡ fetches_of f b v → (c r : ℕ) → mean_at q s t c r ≡ moved f w h s b v c r
  unfolding mean_at fetches_of moved fetched
  moved_is q t s v e g c r =
      let m = steps (subsampled_across f b.plane) in
      let n = steps (subsampled_up f b.plane) in
      let x₁ = shift (8 * b.x) c (down m v.x) in
      let y₁ = shift (8 * b.y) r (down n v.y) in
      let x₂ = shift (8 * b.x) c (rounded_up m v.x) in
      let y₂ = shift (8 * b.y) r (rounded_up n v.y) in
      (λ i. mean_at (e i) s (g i) c r) ∙ (λ i. mean (fetch (plane_of f w h b.plane) s (x₁ i) (y₁ i)) (fetch (plane_of f w h b.plane) s (x₂ i) (y₂ i)))

  module _ (golden previous : List ℕ) (residual : List ℤ) (p : Prediction) where
    pub sum_none : p ≡ None → (c r : ℕ) → with_residual residual (r * 8 + c) 128 ≡ summed f w h golden previous residual p b c r
    unfolding with_residual summed predicted
    sum_none e c r = sym (ap (λ (p : Prediction). summed f w h golden previous residual p b c r) e)

    module _ (v : Vector) (q : Plane) (t : Fetches) (e : q ≡ plane_of f w h b.plane) (g : t ≡ fetches_of f b v) (c r : ℕ) where
      pub sum_previous : p ≡ Previous v → with_residual residual (r * 8 + c) (mean_at q previous t c r) ≡ summed f w h golden previous residual p b c r
      unfolding with_residual summed predicted
      sum_previous k = ap (with_residual residual (r * 8 + c)) (moved_is q t previous v e g c r) ∙ sym (ap (λ (p : Prediction). summed f w h golden previous residual p b c r) k)

      pub sum_golden : p ≡ Golden v → with_residual residual (r * 8 + c) (mean_at q golden t c r) ≡ summed f w h golden previous residual p b c r
      unfolding with_residual summed predicted
      sum_golden k = ap (with_residual residual (r * 8 + c)) (moved_is q t golden v e g c r) ∙ sym (ap (λ (p : Prediction). summed f w h golden previous residual p b c r) k)

  module _ (hw : w ≤ 65535) (hh : h ≤ 65535) (k : InFrame f w h b) where
    -- the block's plane in the buffer
    pub frame_lies : (q : Plane) (n : ℕ) → q ≡ plane_of f w h b.plane → n ≡ 64 * blocks_of f w h → Lies q n
    frame_lies q n e l =
        let t = plane_of_small f w h hw hh q b.plane k.of_three e in
        let x = k.column in
        let y = k.row in
        let a : q.across ≡ across f w b.plane = ap (λ (q : Plane). q.across) e in
        let u : q.up ≡ up f h b.plane = ap (λ (q : Plane). q.up) e in
        let o : q.offset ≡ 64 * blocks_before f w h b.plane = ap (λ (q : Plane). q.offset) e in
        let m : q.up * q.across ≡ up f h b.plane * across f w b.plane = λ i. u i * a i in
        record {
          small = record { across = omega arith; up = omega arith; across_small = t.across; up_small = t.up; offset_small = omega (arith, t.buffer) };
          end = omega (arith, before_next f w h b.plane, before_to f w h b.plane k.of_three);
        }

    -- its last row ends in the buffer
    pub corner_end : sample_at f w h b 0 0 + 7 * (8 * across f w b.plane) + 8 ≤ 64 * blocks_of f w h
    corner_end = omega (arith, from_corner f w h b 7 7, sample_below f w h b 7 7 k (omega arith) (omega arith))

    pub in_small : (b.x < 131070) × (b.y < 131070)
    in_small = (omega (arith, k.column, across_small f w b.plane hw), omega (arith, k.row, up_small f h b.plane hh))
