-- The range of a qi. Assumes nothing.
use Prim.Native.Nat.{ℕ, suc, ◌+◌, ◌-◌, ◌≤◌, ◌<◌}
use native.Mathlib.Omega.{arith}
use native.Mathlib.Numerals.{add-one}
use mathlib.Core.Path.{◌≡◌, refl, sym, ap, ◌∙◌}
use mathlib.Core.List.{List, [], ◌∷◌, ◌++◌}
use mathlib.Core.Bool.{Bool, true, false}
use lib.Dec.{leb, ltb}
use lib.ListN.{length, get_or, take, drop, replicate, length-drop}
use lib.Seq.{take-suc, drop-cons, take_all, take-append-add, length-take-le, get_or-take, get_or-drop}
use borrow.Author.Tests.{leb-true, leb-false, le-leb, lt-leb, ltb-true, ltb-false}
use Rattle.bitstream.specs.Reading.{choose}
use Rattle.quantization.specs.Parameters.{Ranges}
use Rattle.quantization.specs.Layout.{padded}
use Rattle.quantization.specs.Sound.{total, Sound}
use Rattle.quantization.proofs.Soundness.{total_append}
use Rattle.quant_ranges.specs.Ranges.{range_from, range_of, InRange}
use Rattle.quant_ranges.specs.declared.Range.{Range}

pub total_more : (l : List ℕ) (k : ℕ) → k < length l → total (take (k + 1) l) ≡ total (take k l) + get_or l k 0
total_more l k h = rw (add-one k, take-suc l k 0 h) (total_append (take k l) (get_or l k 0 ∷ []) ∙ omega arith)

-- ---- the walk over the sizes, in a loop: so far all ranges end before qi
pub record Walk (l : List ℕ) (qi number start size : ℕ) : Type 0 where
  pub there : number < length l
  pub begins : start ≡ total (take number l)
  pub size_is : size ≡ get_or l number 0
  pub goes : range_of l qi ≡ range_from number start size (drop (number + 1) l) qi

-- the range at which the walk stops
stop_here : (k s n : ℕ) (l : List ℕ) (qi : ℕ) → qi ≤ s + n → range_from k s n l qi ≡ record { number = k; start = s; size = n }
unfolding range_from
stop_here k s n [] qi h = refl
stop_here k s n (m ∷ l) qi h = rw (le-leb qi (s + n) h)

go_on : (k s n m : ℕ) (l : List ℕ) (qi : ℕ) → s + n < qi → range_from k s n (m ∷ l) qi ≡ range_from (k + 1) (s + n) m l qi
unfolding range_from
go_on k s n m l qi h = rw (lt-leb qi (s + n) h)

module _ (l : List ℕ) (qi : ℕ) where
  pub walk_start : (size : ℕ) → 0 < length l → size ≡ get_or l 0 0 → Walk l qi 0 0 size
  walk_start size h e = record { there = h; begins = refl; size_is = e; goes = ap (λ (n : ℕ). range_from 0 0 n (drop 1 l) qi) (sym e) }

  module _ (number start size : ℕ) (w : Walk l qi number start size) where
    -- one range more
    pub walk_more : start + size < qi → qi ≤ total l → (number + 1 < length l) × ((next : ℕ) → next ≡ get_or l (number + 1) 0 → Walk l qi (number + 1) (start + size) next)
    walk_more h m =
        let e : total (take (number + 1) l) ≡ start + size = total_more l number w.there ∙ omega (arith, w.begins, w.size_is) in
        let t : number + 1 < length l = inside e (ltb (number + 1) (length l)) refl in
        let rest : drop (number + 1) l ≡ get_or l (number + 1) 0 ∷ drop (number + 1 + 1) l = rw (add-one (number + 1)) (drop-cons l (number + 1) 0 t) in (
          t,
          λ next n. record {
            there = t;
            begins = sym e;
            size_is = n;
            goes = w.goes ∙ ap (λ (x : List ℕ). range_from number start size x qi) rest ∙ go_on number start size (get_or l (number + 1) 0) (drop (number + 1 + 1) l) qi h
                ∙ ap (λ (x : ℕ). range_from (number + 1) (start + size) x (drop (number + 1 + 1) l) qi) (sym n);
          },
        )
      where
        inside : total (take (number + 1) l) ≡ start + size → (t : Bool) → ltb (number + 1) (length l) ≡ t → number + 1 < length l
        inside e true t = ltb-true _ _ t
        inside e false t =
            let u : length l ≤ number + 1 = ltb-false _ _ t in
            let z : total l ≡ start + size = ap total (sym (take_all (number + 1) l u)) ∙ e in
            absurd (omega arith)

    pub walk_done : qi ≤ start + size → record { number = number; start = start; size = size } ≡ range_of l qi
    walk_done h = sym (w.goes ∙ stop_here number start size (drop (number + 1) l) qi h)

-- ---- a range is found, whatever stands behind the sizes
range_front : (k s n : ℕ) (l z : List ℕ) (qi : ℕ) → qi ≤ s + (n + total l) → range_from k s n (l ++ z) qi ≡ range_from k s n l qi
unfolding range_from
range_front k s n [] z qi m = stop_here k s n z qi (omega arith)
range_front k s n (x ∷ l) z qi m = go (leb qi (s + n)) (range_front (k + 1) (s + n) x l z qi (omega arith))
  where
    go : (t : Bool) → range_from (k + 1) (s + n) x (l ++ z) qi ≡ range_from (k + 1) (s + n) x l qi
        → choose t (record { number = k; start = s; size = n }) (range_from (k + 1) (s + n) x (l ++ z) qi) ≡ choose t (record { number = k; start = s; size = n }) (range_from (k + 1) (s + n) x l qi)
    go true ih = refl
    go false ih = ih

pub record Found (k s n : ℕ) (l : List ℕ) (qi : ℕ) (r : Range) : Type 0 where
  pub some : 1 ≤ r.size
  pub from : r.start ≤ qi
  pub to : qi ≤ r.start + r.size
  pub low : r.start + r.size ≤ s + (n + total l)
  pub least : k ≤ r.number
  pub most : r.number < k + 1 + length l

found : (k s n : ℕ) (l : List ℕ) (qi : ℕ) → 1 ≤ n → ((j : ℕ) → j < length l → 1 ≤ get_or l j 0) → s ≤ qi → qi ≤ s + (n + total l) → Found k s n l qi (range_from k s n l qi)
unfolding range_from
found k s n [] qi hn pos a m = record { some = hn; from = a; to = omega arith; low = omega arith; least = omega arith; most = omega arith }
found k s n (x ∷ l) qi hn pos a m = go (leb qi (s + n)) refl (λ b. found (k + 1) (s + n) x l qi (pos 0 (omega arith)) (λ j r. pos (suc j) (omega arith)) b (omega arith))
  where
    go : (t : Bool) → leb qi (s + n) ≡ t → (s + n ≤ qi → Found (k + 1) (s + n) x l qi (range_from (k + 1) (s + n) x l qi))
        → Found k s n (x ∷ l) qi (choose t (record { number = k; start = s; size = n }) (range_from (k + 1) (s + n) x l qi))
    go true t ih = record { some = hn; from = a; to = leb-true _ _ t; low = omega arith; least = omega arith; most = omega arith }
    go false t ih =
        let b : s + n < qi = leb-false _ _ t in
        let g = ih (omega arith) in
        record { some = g.some; from = g.from; to = g.to; low = omega (arith, g.low); least = omega (arith, g.least); most = omega (arith, g.most) }

-- sizes that are at least 1 each are no more than they sum to
few : (l : List ℕ) → ((j : ℕ) → j < length l → 1 ≤ get_or l j 0) → length l ≤ total l
few [] pos = omega arith
few (n ∷ l) pos = omega (arith, pos 0 (omega arith), few l (λ j h. pos (suc j) (omega arith)))

module _ {n : ℕ} (r : Ranges) (s : Sound n r) where
  pub sizes_few : length r.sizes ≤ 63
  sizes_few = omega (arith, few r.sizes s.positive, s.sum)

  -- an accepted set has a range for every qi
  pub range_found : (qi : ℕ) → qi ≤ 63 → InRange (range_of r.sizes qi) qi × ((range_of r.sizes qi).number < length r.sizes)
  range_found qi h = go r.sizes s.sum s.positive
    where
      go : (l : List ℕ) → total l ≡ 63 → ((j : ℕ) → j < length l → 1 ≤ get_or l j 0) → InRange (range_of l qi) qi × ((range_of l qi).number < length l)
      go [] e pos = absurd (omega arith)
      go (x ∷ l) e pos =
          let g = found 0 0 x l qi (pos 0 (omega arith)) (λ j b. pos (suc j) (omega arith)) (omega arith) (omega arith) in
          (record { some = g.some; from = g.from; to = g.to; low = omega (arith, g.low) }, omega (arith, g.most))

  front : padded r.sizes ≡ r.sizes ++ take (64 - length r.sizes) (replicate 64 0)
  unfolding padded
  front =
      let e : 64 ≡ length r.sizes + (64 - length r.sizes) = omega (arith, sizes_few) in
      ap (λ (k : ℕ). take k (r.sizes ++ replicate 64 0)) e ∙ take-append-add r.sizes (replicate 64 0) (64 - length r.sizes)

  -- the sizes as they lie in 64 elements
  pub range_padded : (qi : ℕ) → qi ≤ 63 → range_of (padded r.sizes) qi ≡ range_of r.sizes qi
  range_padded qi h = ap (λ (l : List ℕ). range_of l qi) front ∙ go r.sizes s.sum _
    where
      go : (l : List ℕ) → total l ≡ 63 → (z : List ℕ) → range_of (l ++ z) qi ≡ range_of l qi
      go [] e z = absurd (omega arith)
      go (x ∷ l) e z = range_front 0 0 x l z qi (omega arith)

  pub padded_enough : 63 ≤ total (padded r.sizes)
  padded_enough = rw front (omega (arith, total_append r.sizes (take (64 - length r.sizes) (replicate 64 0)), s.sum))

-- 64 elements of a slice
module _ (s : List ℕ) (first : ℕ) (h : first + 64 ≤ length s) where
  pub part_long : length (take 64 (drop first s)) ≡ 64
  part_long = length-take-le 64 (drop first s) (omega (arith, length-drop first s))

  pub part_at : (j : ℕ) → j < 64 → get_or (take 64 (drop first s)) j 0 ≡ get_or s (first + j) 0
  part_at j l = get_or-take 64 (drop first s) j 0 l ∙ get_or-drop first s j 0
