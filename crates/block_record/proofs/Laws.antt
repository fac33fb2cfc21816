-- Laws of packing: a record in its range comes back whole, its number is small, and its lowest bit is the coded flag.
-- Assumes nothing.
use mathlib.Core.Path.{◌≡◌, refl, sym, ap, ◌∙◌, subst}
use mathlib.Core.Bool.{Bool, true, false, cond}
use mathlib.Core.List.{List, map}
use Prim.Native.Nat.{ℕ, zero, suc, ◌+◌, ◌-◌, ◌*◌, ◌/◌, ◌%◌, ◌≤◌, ◌<◌}
use native.Mathlib.Omega.{arith}
use borrow.Author.Tests.{eq-eqb, ne_eqb}
use lib.Dec.{T, eqb}
use lib.IntN.{ℤ, pos, negsuc, ◌+ℤ◌, nat_abs}
use lib.ListN.{get_or, get_or-map}
use lib.Signed.{non_neg}
use Rattle.numeric.proofs.Magnitude.{sub_less, sub_more, abs_add}
use Rattle.block_record.specs.declared.Vector.{Vector}
use Rattle.block_record.specs.declared.Prediction.{Prediction}
use Rattle.block_record.specs.declared.Prediction.TheVariants.{None, Previous, Golden}
use Rattle.block_record.specs.declared.BlockRecord.{BlockRecord}
use Rattle.block_record.specs.Record.{VectorInRange, PredictionInRange, InRange, reference_of, uncoded}
use Rattle.block_record.specs.Packed.{biased, unbiased, vector_number, vector_at, prediction_number, prediction_at, flag, packed, unpacked}

-- ---- a component

pub biased_lt : (z : ℤ) → nat_abs z ≤ 31 → biased z < 64
biased_lt z h = let k = abs_add z (pos 32) in omega arith

pub biased_back : (z : ℤ) → nat_abs z ≤ 31 → unbiased (biased z) ≡ z
biased_back (pos n) h = let e : n + 32 - 32 ≡ n = omega arith in sub_more (n + 32) 32 (omega arith) ∙ ap pos e
biased_back (negsuc n) h =
    let e : 32 - suc (32 - suc n) ≡ n = omega arith in
    ap unbiased (ap nat_abs (sub_more 32 (suc n) (omega arith))) ∙ sub_less (32 - suc n) 32 (omega arith) ∙ ap negsuc e

pub biased_pos : (z : ℤ) → nat_abs z ≤ 31 → T (non_neg (z +ℤ pos 32))
biased_pos (pos n) h = tt
biased_pos (negsuc n) h = subst (λ (z : ℤ). T (non_neg z)) (sym (sub_more 32 (suc n) (omega arith))) tt

-- ---- a vector

pub vector_lt : (v : Vector) → VectorInRange v → vector_number v < 4096
unfolding vector_number
vector_lt v h = omega (arith, biased_lt v.x h.x, biased_lt v.y h.y)

vector_back : (v : Vector) → VectorInRange v → vector_at (vector_number v) ≡ v
unfolding vector_at vector_number
vector_back v h =
    let a = biased_lt v.x h.x in
    let b = biased_lt v.y h.y in
    let e : (biased v.x + biased v.y * 64) % 64 ≡ biased v.x = omega arith in
    let d : (biased v.x + biased v.y * 64) / 64 ≡ biased v.y = omega arith in
    let m : biased v.y % 64 ≡ biased v.y = omega arith in
    let f = ap (λ (n : ℕ). n % 64) d ∙ m in
    λ i. record { x = (ap unbiased e ∙ biased_back v.x h.x) i; y = (ap unbiased f ∙ biased_back v.y h.y) i }

-- ---- a prediction: which of the three a number n has, by n % 4

pub at_none : (n : ℕ) → n % 4 ≡ 0 → prediction_at n ≡ None
unfolding prediction_at
at_none n e = rw (eq-eqb (n % 4) 0 e)

pub at_previous : (n : ℕ) → n % 4 ≡ 1 → prediction_at n ≡ Previous (vector_at (n / 4))
unfolding prediction_at
at_previous n e = rw (ne_eqb (n % 4) 0 (λ k. omega arith), eq-eqb (n % 4) 1 e)

pub at_golden : (n : ℕ) → 2 ≤ n % 4 → prediction_at n ≡ Golden (vector_at (n / 4))
unfolding prediction_at
at_golden n h = rw (ne_eqb (n % 4) 0 (λ k. omega arith), ne_eqb (n % 4) 1 (λ k. omega arith))

pub prediction_lt : (p : Prediction) → PredictionInRange p → prediction_number p < 16384
unfolding prediction_number
prediction_lt None h = omega arith
prediction_lt (Previous v) h = omega (arith, vector_lt v h)
prediction_lt (Golden v) h = omega (arith, vector_lt v h)

quarter : (m k : ℕ) → k < 4 → (m * 4 + k) / 4 ≡ m
quarter m k h = omega arith

prediction_back : (p : Prediction) → PredictionInRange p → prediction_at (prediction_number p) ≡ p
unfolding prediction_number
prediction_back None h = at_none 0 refl
prediction_back (Previous v) h =
    at_previous (vector_number v * 4 + 1) (omega arith)
    ∙ ap (λ (n : ℕ). Previous (vector_at n)) (quarter (vector_number v) 1 (omega arith))
    ∙ ap Previous (vector_back v h)
prediction_back (Golden v) h =
    at_golden (vector_number v * 4 + 2) (omega arith)
    ∙ ap (λ (n : ℕ). Golden (vector_at n)) (quarter (vector_number v) 2 (omega arith))
    ∙ ap Golden (vector_back v h)

-- ---- a record

flag_lt : (t : Bool) → flag t < 2
flag_lt true = omega arith
flag_lt false = omega arith

flag_back : (t : Bool) → eqb (flag t) 1 ≡ t
flag_back true = refl
flag_back false = refl

pub bit_flag : (m : ℕ) → m < 2 → flag (eqb m 1) ≡ m
bit_flag zero h = refl
bit_flag (suc zero) h = refl
bit_flag (suc (suc m)) h = absurd (omega arith)

-- a block that is not coded is 0
pub packed_uncoded : packed uncoded ≡ 0
unfolding packed prediction_number
packed_uncoded = refl

-- packing loses nothing
pub unpacked_packed : (r : BlockRecord) → InRange r → unpacked (packed r) ≡ r
unfolding unpacked packed
unpacked_packed r h =
    let b = flag_lt r.coded in
    let q = h.qi_index in
    let n = prediction_number r.prediction * 8 + r.qi_index * 2 + flag r.coded in
    let e : n % 2 ≡ flag r.coded = omega arith in
    let d : n / 2 ≡ prediction_number r.prediction * 4 + r.qi_index = omega arith in
    let f : (prediction_number r.prediction * 4 + r.qi_index) % 4 ≡ r.qi_index = omega arith in
    let g : n / 8 ≡ prediction_number r.prediction = omega arith in
    λ i. record {
      coded = (ap (λ (m : ℕ). eqb m 1) e ∙ flag_back r.coded) i;
      qi_index = (ap (λ (m : ℕ). m % 4) d ∙ f) i;
      prediction = (ap prediction_at g ∙ prediction_back r.prediction h.prediction) i;
    }

-- ---- the reference of a packed record's prediction

low : (v : Vector) (k : ℕ) → k < 2 → k ≡ reference_of (cond (eqb k 0) None (cond (eqb k 1) (Previous v) (Golden v)))
unfolding reference_of
low v zero h = refl
low v (suc zero) h = refl
low v (suc (suc k)) h = absurd (omega arith)

pub reference_low : (n : ℕ) → n % 4 < 2 → n % 4 ≡ reference_of (prediction_at n)
unfolding prediction_at
reference_low n h = low (vector_at (n / 4)) (n % 4) h

pub reference_high : (n : ℕ) → 2 ≤ n % 4 → 2 ≡ reference_of (prediction_at n)
unfolding reference_of
reference_high n h = sym (ap reference_of (at_golden n h))

-- a list of packed records; behind its end are uncoded blocks
pub unpacked_at : (ns : List ℕ) (n : ℕ) → get_or (map unpacked ns) n uncoded ≡ unpacked (get_or ns n 0)
unfolding unpacked prediction_at
unpacked_at ns n = get_or-map unpacked ns n 0
