-- At a border both ranges give the same matrix, and so do any two ranges that hold qi. Assumes nothing.
use Prim.Native.Nat.{ℕ, zero, suc, ◌+◌, ◌-◌, ◌*◌, ◌/◌, ◌≤◌, ◌<◌}
use native.Mathlib.Omega.{arith}
use mathlib.Core.Path.{◌≡◌, refl, sym, ap, ◌∙◌}
use mathlib.Core.List.{List}
use lib.Arith.{digits_div}
use mathlib.Core.Bool.{Bool, true, false}
use lib.Dec.{eqb, leb, ltb}
use borrow.Author.Tests.{leb-true, leb-false, ltb-true, ltb-false}
use lib.ListN.{length, get_or, take}
use Rattle.bitstream.specs.Reading.{choose}
use Rattle.bitstream.specs.Lists.{tabulated}
use Rattle.bitstream.proofs.Lists.{tabulated_same}
use Rattle.quantization.specs.Parameters.{Ranges, Quantization}
use Rattle.quantization.specs.Sound.{total, Sound}
use Rattle.quant_ranges.specs.Ranges.{range_at, InRange}
use Rattle.matrix_values.specs.Values.{interpolated, minimum, scaled}
use Rattle.matrices.specs.Matrix.{value_at, base_at, entry_at}
use Rattle.quant_ranges.specs.declared.Range.{Range}
use Rattle.quant_ranges.proofs.Ranges.{total_more}

module _ (r : Range) (some : 1 ≤ r.size) (qi b₁ b₂ : ℕ) where
  at_end : qi ≡ r.start + r.size → interpolated r qi b₁ b₂ ≡ b₂
  unfolding interpolated
  at_end h =
      let e : r.start + r.size - qi ≡ 0 = omega arith in
      let d : qi - r.start ≡ r.size = omega arith in
      let n = r.size in
      let z : 2 * 0 * b₁ + 2 * n * b₂ + n ≡ b₂ * (2 * n) + n = omega arith in
      rw (e, d) (ap (λ (t : ℕ). t / (2 * n)) z ∙ digits_div b₂ (omega arith))

  at_start : qi ≡ r.start → interpolated r qi b₁ b₂ ≡ b₁
  unfolding interpolated
  at_start h =
      let e : r.start + r.size - qi ≡ r.size = omega arith in
      let d : qi - r.start ≡ 0 = omega arith in
      let n = r.size in
      let z : 2 * n * b₁ + 2 * 0 * b₂ + n ≡ b₁ * (2 * n) + n = omega arith in
      rw (e, d) (ap (λ (t : ℕ). t / (2 * n)) z ∙ digits_div b₁ (omega arith))

-- range k ends where range k + 1 begins, and there both give the same 64 values
module _ (q : Quantization) {n : ℕ} (set : Ranges) (s : Sound n set) (k : ℕ) (h : k + 1 < length set.sizes) (type : ℕ) where
  abbrev l : List ℕ
  l = set.sizes

  abbrev qi : ℕ
  qi = total (take k l) + get_or l k 0

  begins : qi ≡ total (take (k + 1) l)
  begins = sym (total_more l k (omega arith))

  one : (c : ℕ) → entry_at q set (range_at l k) type qi c ≡ entry_at q set (range_at l (k + 1)) type qi c
  unfolding value_at
  one c =
      let low = at_end (range_at l k) (s.positive k (omega arith)) qi (base_at q set k c) (base_at q set (k + 1) c) refl in
      let up = at_start (range_at l (k + 1)) (s.positive (k + 1) h) qi (base_at q set (k + 1) c) (base_at q set (k + 1 + 1) c) begins in
      ap (scaled (minimum type c) (choose (eqb c 0) (get_or q.dc_scale qi 0) (get_or q.ac_scale qi 0))) (low ∙ sym up)

  pub border_same : tabulated (entry_at q set (range_at l k) type qi) 0 64 ≡ tabulated (entry_at q set (range_at l (k + 1)) type qi) 0 64
  border_same = tabulated_same _ _ 0 64 (λ j v. one (0 + j))

-- ---- any two ranges that hold qi
-- each range begins behind the one before it, by 1 at least
later : (l : List ℕ) → ((j : ℕ) → j < length l → 1 ≤ get_or l j 0) → (k d e : ℕ) → k + d ≡ e → e ≤ length l → total (take k l) + d ≤ total (take e l)
later l pos k zero e at h = let z : k ≡ e = omega arith in omega (arith, ap (λ (i : ℕ). total (take i l)) z)
later l pos k (suc d) e at h =
    let z : k + d + 1 ≡ e = omega arith in
    omega (arith, later l pos k d (k + d) refl (omega arith), total_more l (k + d) (omega arith), pos (k + d) (omega arith), ap (λ (i : ℕ). total (take i l)) z)

module _ (q : Quantization) {n : ℕ} (set : Ranges) (s : Sound n set) (type qi : ℕ) where
  abbrev by : ℕ → List ℕ
  by k = tabulated (entry_at q set (range_at set.sizes k) type qi) 0 64

  -- of two different ranges the later is the next one, and qi is the border
  ordered : (j k : ℕ) → j ≤ k → k < length set.sizes → InRange (range_at set.sizes j) qi → InRange (range_at set.sizes k) qi → by j ≡ by k
  ordered j k le h a b = go (ltb j k) refl
    where
      go : (t : Bool) → ltb j k ≡ t → by j ≡ by k
      go false t = let z : j ≡ k = omega (arith, ltb-false j k t) in ap by z
      go true t =
          let l = set.sizes in
          let before : j < k = ltb-true j k t in
          let far = later l s.positive (j + 1) (k - (j + 1)) k (omega arith) (omega arith) in
          let next : j + 1 ≡ k = omega (arith, far, total_more l j (omega arith), a.to, b.from) in
          let here : total (take j l) + get_or l j 0 ≡ qi = omega (arith, far, total_more l j (omega arith), a.to, b.from) in
          ap (λ (x : ℕ). tabulated (entry_at q set (range_at l j) type x) 0 64) (sym here) ∙ border_same q set s j (omega arith) type
          ∙ ap (λ (x : ℕ). tabulated (entry_at q set (range_at l (j + 1)) type x) 0 64) here ∙ ap by next

  pub two_same : (j k : ℕ) → j < length set.sizes → k < length set.sizes → InRange (range_at set.sizes j) qi → InRange (range_at set.sizes k) qi → by j ≡ by k
  two_same j k hj hk a b = go (leb j k) refl
    where
      go : (t : Bool) → leb j k ≡ t → by j ≡ by k
      go true t = ordered j k (leb-true j k t) hk a b
      go false t = let z : k < j = leb-false j k t in sym (ordered k j (omega arith) hj b a)
