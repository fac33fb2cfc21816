-- What holds of parameters that were read, and that 63 ranges are enough for a set. Assumes nothing.
use Prim.Native.Nat.{ℕ, zero, suc, ◌+◌, ◌-◌, ◌*◌, ◌≤◌, ◌<◌}
use native.Mathlib.Omega.{arith}
use mathlib.Core.Path.{◌≡◌, refl, sym, ap, ◌∙◌}
use mathlib.Core.List.{List, [], ◌∷◌, ◌++◌}
use mathlib.Core.Bool.{Bool, true, false}
use lib.Dec.{eqb, leb, ltb}
use lib.ListN.{length, get_or, length-append, get_or-append}
use lib.Seq.{get_or_at}
use borrow.Author.Tests.{leb-true, le-leb, eqb-false, ltb-true, ltb-false}
use Rattle.bitstream.specs.Bits.{bits}
use Rattle.bitstream.specs.Reading.{Outcome, got, refused, after, Parse, pure, bind, ◌>>=◌, here, pick, field, many, until}
use Rattle.bitstream.proofs.Fields.{no_mix}
use Rattle.bitstream.proofs.Laws.{bind_got, until_enough}
use Rattle.quantization.specs.Parameters.{Ranges, Quantization, Begun, with_range, scales, matrix_count, base_matrix, range, new_set, none, set_from, more_sets, quantization}
use Rattle.set_fields.specs.Fields.{index, range_size, origin}
use Rattle.quantization.specs.Answer.{loaded_parameters}
use Rattle.quantization.specs.Sound.{total, Sound, Whole, Holds}
use Rattle.quantization.proofs.Steps.{Matrices, matrices_are}
use Rattle.set_fields.proofs.Fields.{index_lt, size_le}
use Rattle.quantization.proofs.Sets.{origin_is, one_le}
use Rattle.quantization.proofs.Whole.{count_ends}

-- ---- lists
pub total_append : (l m : List ℕ) → total (l ++ m) ≡ total l + total m
total_append [] m = omega arith
total_append (n ∷ l) m = omega (arith, total_append l m)

-- what holds of each element of a list and of one more holds of each of the longer list
each_more : {A : Type 0} (P : A → Type 0) (l : List A) (x d : A) → ((k : ℕ) → k < length l → P (get_or l k d)) → P x → (k : ℕ) → k < length (l ++ x ∷ []) → P (get_or (l ++ x ∷ []) k d)
each_more {A} P l x d f px k h = go (ltb k (length l)) refl
  where
    go : (t : Bool) → ltb k (length l) ≡ t → P (get_or (l ++ x ∷ []) k d)
    go true t = let s : k < length l = ltb-true _ _ t in rw (get_or-append l (x ∷ []) d k s) (f k s)
    go false t =
        let s : length l ≤ k = ltb-false _ _ t in
        let e : length l ≡ k = omega (arith, length-append l (x ∷ [])) in
        rw (get_or_at l x [] d k e) px

-- as many values as were asked for
pub many_long : {A : Type 0} (n : ℕ) (m : Parse A) (p : List ℕ) (i : ℕ) {l : List A} {e : ℕ} → many n m p i ≡ got l e → length l ≡ n
unfolding many
many_long {A} zero m p i {l} h = let z : [] ≡ l = cc in rw (← z) refl
many_long {A} (suc n) m p i {l} h =
    let u = bind_got m (λ a. bind (many n m) (λ l. pure (a ∷ l))) p i h in
    let w = bind_got (many n m) (λ l. pure (u.0 ∷ l)) p u.1 u.3 in
    let r = w.3 in
    let z : u.0 ∷ w.0 ≡ l = cc in
    rw (← z) (ap suc (many_long n m p u.1 w.2))

-- ---- a new set
record Going (n : ℕ) (s : Begun) : Type 0 where
  sum : total s.sizes ≡ s.reached
  low : s.reached ≤ 63
  positive : (k : ℕ) → k < length s.sizes → 1 ≤ get_or s.sizes k 0
  ends : length s.indices ≡ length s.sizes + 1
  below : (k : ℕ) → k < length s.indices → get_or s.indices k 0 < n

going_range : (n : ℕ) (s : Begun) (v b : ℕ) → Going n s → s.reached + (v + 1) ≤ 63 → b < n → Going n (with_range s v b)
going_range n s v b g l h =
    record {
      sum = total_append s.sizes ((v + 1) ∷ []) ∙ omega (arith, g.sum);
      low = l;
      positive = each_more (λ x. 1 ≤ x) s.sizes (v + 1) 0 g.positive (omega arith);
      ends = length-append s.indices (b ∷ []) ∙ omega (arith, g.ends, length-append s.sizes ((v + 1) ∷ []));
      below = each_more (λ x. x < n) s.indices b 0 g.below h;
    }

range_keeps : (n : ℕ) (s : Begun) (p : List ℕ) (i : ℕ) {t : Begun} {e : ℕ} → Going n s → range n s p i ≡ got t e → Going n t
unfolding range
range_keeps n s p i {t} g h =
    let u = bind_got (range_size s.reached) (λ v. bind (index n) (λ b. pure (with_range s v b))) p i h in
    let w = bind_got (index n) (λ b. pure (with_range s u.0 b)) p u.1 u.3 in
    let r = w.3 in
    let z : with_range s u.0 w.0 ≡ t = cc in
    rw (← z) (going_range n s u.0 w.0 g (size_le s.reached p i u.2) (index_lt n p u.1 w.2))

until_keeps : (n fuel : ℕ) (s : Begun) (p : List ℕ) (i : ℕ) {t : Begun} {e : ℕ} → Going n s → until (λ s. leb 63 s.reached) (range n) 7 fuel s p i ≡ got t e → Going n t × (63 ≤ t.reached)
unfolding until
until_keeps n zero s p i {t} {e} g h = go (leb 63 s.reached) refl h
  where
    go : (b : Bool) → leb 63 s.reached ≡ b → pick b (pure s) (bind here (λ k. λ p i. refused 7 k)) p i ≡ got t e → Going n t × (63 ≤ t.reached)
    go true b r = let z : s ≡ t = cc in rw (← z) (g, leb-true _ _ b)
    go false b r = no_mix (sym r)
until_keeps n (suc fuel) s p i {t} {e} g h = go (leb 63 s.reached) refl h (λ s' j g' r. until_keeps n fuel s' p j g' r)
  where
    go : (b : Bool) → leb 63 s.reached ≡ b → pick b (pure s) (bind (range n s) (until (λ s. leb 63 s.reached) (range n) 7 fuel)) p i ≡ got t e
        → ((s' : Begun) (j : ℕ) → Going n s' → until (λ s. leb 63 s.reached) (range n) 7 fuel s' p j ≡ got t e → Going n t × (63 ≤ t.reached)) → Going n t × (63 ≤ t.reached)
    go true b r ih = let z : s ≡ t = cc in rw (← z) (g, leb-true _ _ b)
    go false b r ih =
        let u = bind_got (range n s) (until (λ s. leb 63 s.reached) (range n) 7 fuel) p i r in
        ih u.0 u.1 (range_keeps n s p i g u.2) u.3

-- a range has a qi at least
range_further : (n : ℕ) (s : Begun) (p : List ℕ) (i : ℕ) (t : Begun) (e : ℕ) → range n s p i ≡ got t e → s.reached < t.reached
unfolding range
range_further n s p i t e h =
    let u = bind_got (range_size s.reached) (λ v. bind (index n) (λ b. pure (with_range s v b))) p i h in
    let w = bind_got (index n) (λ b. pure (with_range s u.0 b)) p u.1 u.3 in
    let r = w.3 in
    let z : with_range s u.0 w.0 ≡ t = cc in
    rw (← z) (omega arith)

-- `newSet` with the number k in the last clause of `until`
abbrev pub new_set_by : ℕ → ℕ → Parse Ranges
new_set_by k n = do
  b ← index n
  s ← until (λ s. leb 63 s.reached) (range n) k 63 (record { reached = 0; sizes = []; indices = b ∷ [] })
  pure (record { sizes = s.sizes; indices = s.indices })

abbrev ranges_of : Begun → Ranges
ranges_of s = record { sizes = s.sizes; indices = s.indices }

abbrev set_behind : ℕ → ℕ → List ℕ → ℕ → ℕ → Outcome Ranges
set_behind k n p b e = after (until (λ s. leb 63 s.reached) (range n) k 63 (record { reached = 0; sizes = []; indices = b ∷ [] }) p e) (λ s d. got (ranges_of s) d)

-- 63 ranges are enough: no packet reaches that clause, whatever number it has
pub ranges_enough : (n k : ℕ) (p : List ℕ) (i : ℕ) → new_set n p i ≡ new_set_by k n p i
unfolding new_set
ranges_enough n k p i = go (index n p i)
  where
    go : (o : Outcome ℕ) → after o (set_behind 7 n p) ≡ after o (set_behind k n p)
    go (got b e) =
        ap (λ (o : Outcome Begun). after o (λ s d. got (ranges_of s) d))
        (until_enough (λ s. leb 63 s.reached) (range n) (λ s. s.reached) 63 (λ s. le-leb 63 s.reached) (range_further n) 7 k 63 (record { reached = 0; sizes = []; indices = b ∷ [] }) (omega arith) p e)
    go (refused j e) = refl

new_sound : (n : ℕ) (p : List ℕ) (i : ℕ) {r : Ranges} {e : ℕ} → new_set n p i ≡ got r e → Sound n r
unfolding new_set
new_sound n p i {r} h =
    let u = bind_got (index n) (λ b. bind (until (λ s. leb 63 s.reached) (range n) 7 63 (record { reached = 0; sizes = []; indices = b ∷ [] })) (λ s. pure (record { sizes = s.sizes; indices = s.indices }))) p i h in
    let w = bind_got (until (λ s. leb 63 s.reached) (range n) 7 63 (record { reached = 0; sizes = []; indices = u.0 ∷ [] })) (λ s. pure (record { sizes = s.sizes; indices = s.indices })) p u.1 u.3 in
    let g = until_keeps n 63 (record { reached = 0; sizes = []; indices = u.0 ∷ [] }) p u.1 (start u.0 (index_lt n p i u.2)) w.2 in
    finish w.0 w.1 w.3 g.0 g.1
  where
    start : (b : ℕ) → b < n → Going n (record { reached = 0; sizes = []; indices = b ∷ [] })
    start b l =
        record {
          sum = refl;
          low = omega arith;
          positive = λ k h. absurd (omega arith);
          ends = refl;
          below = λ k h. let z : k ≡ 0 = omega arith in rw z l;
        }

    finish : (s : Begun) (d : ℕ) {e : ℕ} → pure (record { sizes = s.sizes; indices = s.indices }) p d ≡ got r e → Going n s → 63 ≤ s.reached → Sound n r
    finish s d q g l =
        let t : Ranges = record { sizes = s.sizes; indices = s.indices } in
        let z : t ≡ r = cc in
        rw (← z) (record { sum = omega (arith, g.sum, g.low); positive = g.positive; ends = g.ends; below = g.below })

-- ---- the sets
abbrev Sounds : ℕ → List Ranges → Type 0
Sounds n l = (k : ℕ) → k < length l → Sound n (get_or l k none)

from_sound : (n : ℕ) (done : List Ranges) (back : ℕ) (p : List ℕ) (i : ℕ) {r : Ranges} {e : ℕ} → Sounds n done → back ≤ length done → set_from n done back p i ≡ got r e → Sound n r
unfolding set_from
from_sound n done back p i {r} {e} s l h = go (eqb back 0) refl h
  where
    go : (t : Bool) → eqb back 0 ≡ t → pick t (new_set n) (pure (get_or done (length done - back) none)) p i ≡ got r e → Sound n r
    go true t q = new_sound n p i q
    go false t q = let z : get_or done (length done - back) none ≡ r = cc in rw (← z) (s (length done - back) (omega (arith, one_le back (eqb-false _ _ t))))

sets_sound : (k n : ℕ) (done : List Ranges) (p : List ℕ) (i : ℕ) {sets : List Ranges} {e : ℕ} → Sounds n done → more_sets k n done p i ≡ got sets e → (length sets ≡ length done + k) × Sounds n sets
unfolding more_sets
sets_sound zero n done p i {sets} s h = let z : done ≡ sets = cc in rw (← z) (omega arith, s)
sets_sound (suc k) n done p i s h =
    let u = bind_got (origin (length done)) (λ back. bind (set_from n done back) (λ r. more_sets k n (done ++ r ∷ []))) p i h in
    let w = bind_got (set_from n done u.0) (λ r. more_sets k n (done ++ r ∷ [])) p u.1 u.3 in
    let one = from_sound n done u.0 p u.1 s (origin_is (length done) p i u.2).there w.2 in
    let g = sets_sound k n (done ++ w.0 ∷ []) p w.1 (each_more (Sound n) done w.0 none s one) w.3 in
    (g.0 ∙ omega (arith, length-append done (w.0 ∷ [])), g.1)

scales_long : (p : List ℕ) (j : ℕ) {l : List ℕ} {e : ℕ} → scales p j ≡ got l e → length l ≡ 64
unfolding scales
scales_long p j r = let u = bind_got (field 4) (λ w. many 64 (field (w + 1))) p j r in many_long 64 (field (u.0 + 1)) p u.1 u.3

-- ---- the whole
pub quantization_whole : (p : List ℕ) (i : ℕ) {q : Quantization} {e : ℕ} → quantization p i ≡ got q e → Whole q p
unfolding quantization
quantization_whole p i {q} h =
    let a = bind_got scales (λ ac. bind scales (λ dc. bind matrix_count (λ n. bind here (λ at. bind (many n base_matrix) (λ ms. bind (more_sets 6 n [])
    (λ sets. pure (record { ac_scale = ac; dc_scale = dc; matrices_at = at; matrices = ms; sets = sets }))))))) p i h in
    let b = bind_got scales (λ dc. bind matrix_count (λ n. bind here (λ at. bind (many n base_matrix) (λ ms. bind (more_sets 6 n [])
    (λ sets. pure (record { ac_scale = a.0; dc_scale = dc; matrices_at = at; matrices = ms; sets = sets })))))) p a.1 a.3 in
    let c = bind_got matrix_count (λ n. bind here (λ at. bind (many n base_matrix) (λ ms. bind (more_sets 6 n [])
    (λ sets. pure (record { ac_scale = a.0; dc_scale = b.0; matrices_at = at; matrices = ms; sets = sets }))))) p b.1 b.3 in
    let d = bind_got (many c.0 base_matrix) (λ ms. bind (more_sets 6 c.0 [])
    (λ sets. pure (record { ac_scale = a.0; dc_scale = b.0; matrices_at = c.1; matrices = ms; sets = sets }))) p c.1 c.3 in
    let f = bind_got (more_sets 6 c.0 []) (λ sets. pure (record { ac_scale = a.0; dc_scale = b.0; matrices_at = c.1; matrices = d.0; sets = sets })) p d.1 d.3 in
    finish a.0 b.0 c.1 d.0 f.0 f.1 c.0 f.3 (scales_long p i a.2) (scales_long p a.1 b.2) (matrices_are c.0 p c.1 (count_ends p b.1 c.2) d.2) (sets_sound 6 c.0 [] p d.1 (λ k l. absurd (omega arith)) f.2)
  where
    finish : (ac dc : List ℕ) (at : ℕ) (ms : List (List ℕ)) (sets : List Ranges) (j n : ℕ) {e : ℕ} → pure (record { ac_scale = ac; dc_scale = dc; matrices_at = at; matrices = ms; sets = sets }) p j ≡ got q e
        → length ac ≡ 64 → length dc ≡ 64 → (at + n * 512 ≤ bits p) × Matrices p at n ms → (length sets ≡ 0 + 6) × Sounds n sets → Whole q p
    finish ac dc at ms sets j n r la ld m s =
        let x : Quantization = record { ac_scale = ac; dc_scale = dc; matrices_at = at; matrices = ms; sets = sets } in
        let z : x ≡ q = cc in
        let y : n ≡ length ms = sym m.1.long in
        rw (← z)
        (record {
          ac_long = la;
          dc_long = ld;
          six = s.0;
          sound = λ k l. rw (← y) (s.1 k (omega (arith, s.0)));
          room = rw (← y) m.0;
          numbers = λ k c l h. (m.1.each k (omega arith)).each c h;
        })

-- parameters that were read, as the code has them
pub read_holds : (p : List ℕ) (i : ℕ) {q : Quantization} {e : ℕ} → quantization p i ≡ got q e → Holds p (loaded_parameters q) q
read_holds p i h = record { is = refl; whole = quantization_whole p i h }
