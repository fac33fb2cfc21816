-- How the parts of the quantization parameters go, by what their fields are. Assumes nothing.
use Prim.Native.Nat.{ℕ, zero, suc, ◌+◌, ◌-◌, ◌*◌, ◌/◌, ◌≤◌, ◌<◌}
use native.Mathlib.Omega.{arith}
use mathlib.Core.Path.{◌≡◌, refl, sym, ap, ◌∙◌}
use mathlib.Core.List.{List, [], ◌∷◌}
use mathlib.Core.Bool.{Bool, true, false}
use lib.Dec.{ltb, leb}
use lib.ListN.{length, get_or}
use borrow.Author.Tests.{ltb-true, ltb-false, leb-true, leb-false, le-leb, lt-leb}
use Rattle.bitstream.specs.Bits.{bits, number}
use Rattle.bitstream.specs.Reading.{got, refused, pure, field, judged, many}
use Rattle.bitstream.proofs.Fields.{no_mix, field_got, field_end, judged_end, judged_fails, judged_passes}
use Rattle.bitstream.proofs.Laws.{bind_got}
use Rattle.quantization.specs.Parameters.{scales, matrix_count, base_matrix}
use Rattle.quantization.specs.Answer.{Filled}
use Rattle.bitstream.specs.Answer.{as_end}
use Rattle.bitstream.specs.declared.End.{End}
use Rattle.bitstream.specs.declared.End.TheVariants.{At}
use Rattle.bitstream.proofs.Loops.{many_cons, many_later, many_first}
use Rattle.set_fields.proofs.Fields.{judged_true}

-- ---- scales, the count, an index, a size
module _ (p : List ℕ) (i : ℕ) where
  pub scales_end : {k e : ℕ} → field 4 p i ≡ refused k e → scales p i ≡ refused k e
  unfolding scales
  scales_end f = rw f

  pub scales_got : {v e : ℕ} → field 4 p i ≡ got v e → scales p i ≡ many 64 (field (v + 1)) p e
  unfolding scales
  scales_got f = rw f

  pub count_end : {k e : ℕ} → field 9 p i ≡ refused k e → matrix_count p i ≡ refused k e
  unfolding matrix_count
  count_end f = rw (judged_end 9 (λ v. leb (v + 1) 384) 7 p i f)

  pub count_big : {v e : ℕ} → field 9 p i ≡ got v e → 384 < v + 1 → matrix_count p i ≡ refused 7 i
  unfolding matrix_count
  count_big f h = rw (judged_fails 9 (λ v. leb (v + 1) 384) 7 p i f (lt-leb _ _ h))

  pub count_got : {v e : ℕ} → field 9 p i ≡ got v e → v + 1 ≤ 384 → matrix_count p i ≡ got (v + 1) e
  unfolding matrix_count
  count_got f h = rw (judged_passes 9 (λ v. leb (v + 1) 384) 7 p i f (le-leb _ _ h))

pub count_range : (p : List ℕ) (i : ℕ) {n e : ℕ} → matrix_count p i ≡ got n e → (1 ≤ n) × (n ≤ 384)
unfolding matrix_count
count_range p i {n} {e} h =
    let u = bind_got (judged 9 (λ v. leb (v + 1) 384) 7) (λ v. pure (v + 1)) p i h in
    let l : u.0 + 1 ≤ 384 = leb-true _ _ (judged_true 9 (λ v. leb (v + 1) 384) 7 p i u.2) in
    let g = u.3 in
    let z : u.0 + 1 ≡ n = cc in
    (omega arith, omega arith)

-- ---- the base matrices: where they are whole, their numbers are those of the packet, and else the first that is not there whole is refused
bytes_end : (n : ℕ) (p : List ℕ) (i : ℕ) → i ≤ bits p → bits p - i < n * 8 → many n (field 8) p i ≡ refused 4 (i + (bits p - i) / 8 * 8)
bytes_end zero p i h l = absurd (omega arith)
bytes_end (suc n) p i h l = go (ltb (bits p - i) 8) refl (λ a b. bytes_end n p (i + 8) a b)
  where
    go : (t : Bool) → ltb (bits p - i) 8 ≡ t → (i + 8 ≤ bits p → bits p - (i + 8) < n * 8 → many n (field 8) p (i + 8) ≡ refused 4 (i + 8 + (bits p - (i + 8)) / 8 * 8)) → many (suc n) (field 8) p i ≡ refused 4 (i + (bits p - i) / 8 * 8)
    go true t ih =
        let s : bits p - i < 8 = ltb-true _ _ t in
        let e : i + (bits p - i) / 8 * 8 ≡ i = omega arith in
        rw e (many_first n (field 8) p i (field_end 8 p i (omega arith)))
    go false t ih =
        let s : 8 ≤ bits p - i = ltb-false _ _ t in
        let e : i + (bits p - i) / 8 * 8 ≡ i + 8 + (bits p - (i + 8)) / 8 * 8 = omega arith in
        rw e (many_later n (field 8) p i (field_got 8 p i (omega arith)) (ih (omega arith) (omega arith)))

-- the numbers of a list of n, of 8 bits each, from the place i on
pub record Numbers (p : List ℕ) (i n : ℕ) (l : List ℕ) : Type 0 where
  pub long : length l ≡ n
  pub each : (c : ℕ) → c < n → get_or l c 0 ≡ number p (i + c * 8) 8

bytes_got : (n : ℕ) (p : List ℕ) (i : ℕ) → i + n * 8 ≤ bits p → (l : List ℕ) × (many n (field 8) p i ≡ got l (i + n * 8)) × Numbers p i n l
unfolding many
bytes_got zero p i h = ([], ap (got []) (omega arith), record { long = refl; each = λ c r. absurd (omega arith) })
bytes_got (suc n) p i h =
    let g = bytes_got n p (i + 8) (omega arith) in
    let e : i + 8 + n * 8 ≡ i + suc n * 8 = omega arith in (
      number p i 8 ∷ g.0,
      many_cons n (field 8) p i (field_got 8 p i (omega arith)) g.1 ∙ ap (got (number p i 8 ∷ g.0)) e,
      record { long = ap suc g.2.long; each = each g.0 g.2.each },
    )
  where
    each : (l : List ℕ) → ((c : ℕ) → c < n → get_or l c 0 ≡ number p (i + 8 + c * 8) 8) → (c : ℕ) → c < suc n → get_or (number p i 8 ∷ l) c 0 ≡ number p (i + c * 8) 8
    each l f zero r = ap (λ (j : ℕ). number p j 8) (omega arith)
    each l f (suc c) r = f c (omega arith) ∙ ap (λ (j : ℕ). number p j 8) (omega arith)

pub matrices_end : (n : ℕ) (p : List ℕ) (i : ℕ) → i ≤ bits p → bits p - i < n * 512 → many n base_matrix p i ≡ refused 4 (i + (bits p - i) / 8 * 8)
unfolding base_matrix
matrices_end zero p i h l = absurd (omega arith)
matrices_end (suc n) p i h l = go (ltb (bits p - i) 512) refl (λ a b. matrices_end n p (i + 512) a b)
  where
    go : (t : Bool) → ltb (bits p - i) 512 ≡ t → (i + 512 ≤ bits p → bits p - (i + 512) < n * 512 → many n (many 64 (field 8)) p (i + 512) ≡ refused 4 (i + 512 + (bits p - (i + 512)) / 8 * 8)) → many (suc n) (many 64 (field 8)) p i ≡ refused 4 (i + (bits p - i) / 8 * 8)
    go true t ih = let s : bits p - i < 512 = ltb-true _ _ t in many_first n (many 64 (field 8)) p i (bytes_end 64 p i h (omega arith))
    go false t ih =
        let s : 512 ≤ bits p - i = ltb-false _ _ t in
        let e : i + (bits p - i) / 8 * 8 ≡ i + 512 + (bits p - (i + 512)) / 8 * 8 = omega arith in
        let f = bytes_got 64 p i (omega arith) in
        rw e (many_later n (many 64 (field 8)) p i f.1 (ih (omega arith) (omega arith)))

-- n matrices of 64 numbers from the place i on
pub record Matrices (p : List ℕ) (i n : ℕ) (ms : List (List ℕ)) : Type 0 where
  pub long : length ms ≡ n
  pub each : (m : ℕ) → m < n → Numbers p (i + m * 512) 64 (get_or ms m [])

matrices_whole : (n : ℕ) (p : List ℕ) (i : ℕ) → i + n * 512 ≤ bits p → (ms : List (List ℕ)) × (many n base_matrix p i ≡ got ms (i + n * 512)) × Matrices p i n ms
unfolding base_matrix many
matrices_whole zero p i h = ([], ap (got []) (omega arith), record { long = refl; each = λ c r. absurd (omega arith) })
matrices_whole (suc n) p i h =
    let f = bytes_got 64 p i (omega arith) in
    let g = matrices_whole n p (i + 512) (omega arith) in
    let e : i + 512 + n * 512 ≡ i + suc n * 512 = omega arith in (
      f.0 ∷ g.0,
      many_cons n (many 64 (field 8)) p i f.1 g.1 ∙ ap (got (f.0 ∷ g.0)) e,
      record { long = ap suc g.2.long; each = each g.0 f.2 g.2.each },
    )
  where
    each : {l : List ℕ} (ms : List (List ℕ)) → Numbers p i 64 l → ((m : ℕ) → m < n → Numbers p (i + 512 + m * 512) 64 (get_or ms m [])) → (m : ℕ) → m < suc n → Numbers p (i + m * 512) 64 (get_or (l ∷ ms) m [])
    each ms a f zero r = let e : i + 0 * 512 ≡ i = omega arith in rw e a
    each ms a f (suc m) r = let e : i + suc m * 512 ≡ i + 512 + m * 512 = omega arith in rw e (f m (omega arith))

pub matrices_place : (n : ℕ) (p : List ℕ) (i : ℕ) → i + n * 512 ≤ bits p → At (i + n * 512) ≡ as_end (many n base_matrix p i)
matrices_place n p i h = sym (ap as_end (matrices_whole n p i h).1)

-- what base matrices that were got say: they are there whole, and are the packet's numbers
pub matrices_are : (n : ℕ) (p : List ℕ) (i : ℕ) {ms : List (List ℕ)} {e : ℕ} → i ≤ bits p → many n base_matrix p i ≡ got ms e → (i + n * 512 ≤ bits p) × Matrices p i n ms
matrices_are n p i {ms} {e} h f = go (leb (i + n * 512) (bits p)) refl
  where
    go : (t : Bool) → leb (i + n * 512) (bits p) ≡ t → (i + n * 512 ≤ bits p) × Matrices p i n ms
    go true t =
        let s : i + n * 512 ≤ bits p = leb-true _ _ t in
        let g = matrices_whole n p i s in
        let q = sym f ∙ g.1 in
        let z : ms ≡ g.0 = cc in
        (s, rw z g.2)
    go false t = let s : bits p < i + n * 512 = leb-false _ _ t in no_mix (sym f ∙ matrices_end n p i h (omega arith))

-- the values behind the width, as a callee answers them
pub scales_filled : (p : List ℕ) (i : ℕ) {v e : ℕ} → field 4 p i ≡ got v e → (n : ℕ) → n ≡ 64 → (r : End) (new : List ℕ)
    → r ≡ as_end (many n (field (v + 1)) p e) → Filled (many n (field (v + 1)) p e) new → (r ≡ as_end (scales p i)) × Filled (scales p i) new
scales_filled p i f n z r new a s = rw (scales_got p i f, ← z) (a, s)
