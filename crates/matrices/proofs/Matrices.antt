-- The matrix, from parameters that were read. Assumes nothing.
use Prim.Native.Nat.{ℕ, ◌+◌, ◌*◌, ◌≤◌, ◌<◌}
use native.Mathlib.Omega.{arith}
use mathlib.Core.Path.{◌≡◌, refl, sym, ap, ap₂, ◌∙◌}
use mathlib.Core.List.{List, [], append-nil}
use lib.ListN.{length, get_or, take, drop}
use Rattle.bitstream.specs.Bits.{bits, number}
use Rattle.bitstream.specs.Lists.{tabulated}
use Rattle.bitstream.proofs.Lists.{tabulated_same}
use Rattle.quantization.specs.Parameters.{Ranges, Quantization, none}
use Rattle.quantization.specs.Layout.{padded, laid}
use Rattle.quantization.specs.Sound.{total, Sound, Holds}
use Rattle.quantization.specs.Answer.{loaded_parameters}
use Rattle.quantization.specs.declared.LoadedParameters.{LoadedParameters}
use Rattle.quantization.proofs.Layouts.{laid_length, laid_part, laid_at}
use Rattle.quant_ranges.specs.Ranges.{range_of, InRange}
use Rattle.matrices.specs.Matrix.{value_at, set_of, base_at, entry_at, matrix_of}
use Rattle.quant_ranges.specs.declared.Range.{Range}
use Rattle.quant_ranges.proofs.Ranges.{sizes_few, range_found, range_padded, padded_enough}

-- ---- what the parameters are
module _ {p : List ℕ} {l : LoadedParameters} {q : Quantization} (h : Holds p l q) where
  place_is : l.place ≡ q.matrices_at
  unfolding loaded_parameters
  place_is = ap (λ (x : LoadedParameters). x.place) h.is

  ac_is : l.ac_scale ≡ q.ac_scale
  unfolding loaded_parameters
  ac_is = ap (λ (x : LoadedParameters). x.ac_scale) h.is

  dc_is : l.dc_scale ≡ q.dc_scale
  unfolding loaded_parameters
  dc_is = ap (λ (x : LoadedParameters). x.dc_scale) h.is

  sizes_are : l.sizes ≡ laid (λ r. r.sizes) q.sets
  unfolding loaded_parameters
  sizes_are = ap (λ (x : LoadedParameters). x.sizes) h.is

  indices_are : l.indices ≡ laid (λ r. r.indices) q.sets
  unfolding loaded_parameters
  indices_are = ap (λ (x : LoadedParameters). x.indices) h.is

-- ---- the matrix
module _ (p : List ℕ) (l : LoadedParameters) (q : Quantization) (h : Holds p l q) (type plane qi : ℕ) (t : type < 2) (u : plane < 3) (b : qi < 64) where
  abbrev k : ℕ
  k = 3 * type + plane

  abbrev set : Ranges
  set = set_of q type plane

  in_six : k < length q.sets
  in_six = omega (arith, h.whole.six)

  is_sound : Sound (length q.matrices) set
  is_sound = h.whole.sound k (omega arith)

  pub sizes_long : length l.sizes ≡ 384
  sizes_long = ap length (sizes_are h) ∙ laid_length (λ r. r.sizes) q.sets ∙ omega (arith, h.whole.six)

  part_is : take 64 (drop (k * 64) l.sizes) ≡ padded set.sizes
  part_is = ap (λ (x : List ℕ). take 64 (drop (k * 64) x)) (sizes_are h ∙ sym (append-nil (laid (λ r. r.sizes) q.sets))) ∙ laid_part (λ r. r.sizes) q.sets [] k none in_six

  pub enough : qi ≤ total (take 64 (drop (k * 64) l.sizes))
  enough = rw part_is (omega (arith, padded_enough set is_sound))

  -- the range that is found is that of the set
  module _ (r : Range) (e : r ≡ range_of (take 64 (drop (k * 64) l.sizes)) qi) where
    range_is : r ≡ range_of set.sizes qi
    range_is = e ∙ ap (λ (x : List ℕ). range_of x qi) part_is ∙ range_padded set is_sound qi (omega arith)

    in_range : InRange r qi
    in_range = rw range_is (range_found set is_sound qi (omega arith)).0

    number_lt : r.number < length set.sizes
    number_lt = rw range_is (range_found set is_sound qi (omega arith)).1

    number_few : r.number < 63
    number_few = omega (arith, number_lt, sizes_few set is_sound)

    -- an index at one of the range's ends
    module _ (j : ℕ) (v : j ≤ r.number + 1) (m : ℕ) (f : m ≡ get_or l.indices (k * 64 + j) 0) where
      index_is : m ≡ get_or set.indices j 0
      index_is = f ∙ ap (λ (x : List ℕ). get_or x (k * 64 + j) 0) (indices_are h) ∙ laid_at (λ r. r.indices) q.sets k j none in_six (omega (arith, number_few))

      index_lt : m < length q.matrices
      index_lt = rw index_is (is_sound.below j (omega (arith, number_lt, is_sound.ends)))

      -- the base matrix that it names stands whole in the packet
      base_room : l.place + m * 512 + 512 ≤ bits p
      base_room = omega (arith, index_lt, place_is h, h.whole.room)

      base_is : (c : ℕ) → c < 64 → number p (l.place + m * 512 + c * 8) 8 ≡ base_at q set j c
      base_is c v =
          ap (λ (x : ℕ). number p (x + m * 512 + c * 8) 8) (place_is h) ∙ sym (h.whole.numbers m c index_lt v) ∙ ap (λ (x : ℕ). get_or (get_or q.matrices x []) c 0) index_is

    -- what the reading of the two base matrices needs
    pub ends : (r.number < 63) × InRange r qi × (l.place + get_or l.indices (k * 64 + r.number) 0 * 512 + 512 ≤ bits p) × (l.place + get_or l.indices (k * 64 + r.number + 1) 0 * 512 + 512 ≤ bits p)
    ends =
        let e : k * 64 + r.number + 1 ≡ k * 64 + (r.number + 1) = omega arith in (
          number_few,
          in_range,
          base_room r.number (omega arith) (get_or l.indices (k * 64 + r.number) 0) refl,
          base_room (r.number + 1) (omega arith) (get_or l.indices (k * 64 + r.number + 1) 0) (ap (λ (x : ℕ). get_or l.indices x 0) e),
        )

    matrix_is : (m₁ m₂ : ℕ) → m₁ ≡ get_or l.indices (k * 64 + r.number) 0 → m₂ ≡ get_or l.indices (k * 64 + (r.number + 1)) 0 → (d a : ℕ) → d ≡ get_or l.dc_scale qi 0 → a ≡ get_or l.ac_scale qi 0
        → tabulated (λ c. value_at type d a r qi c (number p (l.place + m₁ * 512 + c * 8) 8) (number p (l.place + m₂ * 512 + c * 8) 8)) 0 64 ≡ matrix_of q type plane qi
    unfolding matrix_of
    matrix_is m₁ m₂ f₁ f₂ d a ed ea = tabulated_same _ _ 0 64 (λ j v. one (0 + j) (omega arith)) ∙ ap (λ (x : Range). tabulated (entry_at q set x type qi) 0 64) range_is
      where
        one : (c : ℕ) → c < 64 → value_at type d a r qi c (number p (l.place + m₁ * 512 + c * 8) 8) (number p (l.place + m₂ * 512 + c * 8) 8) ≡ entry_at q set r type qi c
        one c v =
            let sd : d ≡ get_or q.dc_scale qi 0 = ed ∙ ap (λ (x : List ℕ). get_or x qi 0) (dc_is h) in
            let sa : a ≡ get_or q.ac_scale qi 0 = ea ∙ ap (λ (x : List ℕ). get_or x qi 0) (ac_is h) in
            ap₂ (λ (x y : ℕ). value_at type x y r qi c (number p (l.place + m₁ * 512 + c * 8) 8) (number p (l.place + m₂ * 512 + c * 8) 8)) sd sa
            ∙ ap₂ (λ (x y : ℕ). value_at type (get_or q.dc_scale qi 0) (get_or q.ac_scale qi 0) r qi c x y) (base_is r.number (omega arith) m₁ f₁ c v) (base_is (r.number + 1) (omega arith) m₂ f₂ c v)

    pub matrix_found_law : tabulated (λ c. value_at type (get_or l.dc_scale qi 0) (get_or l.ac_scale qi 0) r qi c (number p (l.place + get_or l.indices (k * 64 + r.number) 0 * 512 + c * 8) 8) (number p (l.place + get_or l.indices (k * 64 + r.number + 1) 0 * 512 + c * 8) 8)) 0 64
        ≡ matrix_of q type plane qi
    matrix_found_law =
        let e : k * 64 + r.number + 1 ≡ k * 64 + (r.number + 1) = omega arith in
        matrix_is (get_or l.indices (k * 64 + r.number) 0) (get_or l.indices (k * 64 + r.number + 1) 0) refl (ap (λ (x : ℕ). get_or l.indices x 0) e) (get_or l.dc_scale qi 0) (get_or l.ac_scale qi 0) refl refl
