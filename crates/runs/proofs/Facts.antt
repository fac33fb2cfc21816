-- Runs and strings, step by step. Assumes nothing.
use Prim.Native.Nat.{ℕ, zero, suc, ◌+◌, ◌-◌, ◌≤◌, ◌<◌}
use native.Mathlib.Omega.{arith}
use mathlib.Core.Path.{◌≡◌, refl, sym, ap, ◌∙◌}
use mathlib.Core.List.{List, [], ◌∷◌, ◌++◌}
use mathlib.Core.Bool.{Bool, true, false}
use lib.Dec.{eqb, leb}
use lib.ListN.{length, get_or, take, replicate, get_or-append}
use lib.Seq.{length-take-le, take_all}
use borrow.Author.Tests.{le-leb, lt-leb, eq-eqb, ne_eqb}
use Rattle.bitstream.specs.Reading.{got, refused, bind, pure, pick, field, until, unary}
use Rattle.bitstream.proofs.Fields.{no_mix, field_lt}
use Rattle.bitstream.proofs.Laws.{bind_got, whole_got, whole_refused, whole_cases}
use Rattle.runs.specs.Runs.{most, start, extra, run_length, run, Sent, next_bit, fresh, one_run, complete, sent, bit_string}
use Rattle.runs.specs.declared.RunCode.{RunCode}
use Rattle.runs.specs.declared.RunCode.TheVariants.{Long, Short}
use Rattle.bitstream.proofs.Unary.{unary_most}
use Rattle.buffer.proofs.Laws.{filled_to, filled_front}
use Rattle.bitstream.proofs.Table.{between}

-- ---- the bit behind a run
pub fresh_yes : (r : ℕ) → r ≡ 4129 → 1 ≡ fresh r
fresh_yes r h = rw (eq-eqb r 4129 h)

pub fresh_no : (r : ℕ) → (r ≡ 4129 → ⊥) → 0 ≡ fresh r
fresh_no r h = rw (ne_eqb r 4129 h)

-- ---- the next bit
module _ (anew value : ℕ) (p : List ℕ) (i : ℕ) where
  pub bit_read : anew ≡ 1 → next_bit anew value p i ≡ field 1 p i
  unfolding next_bit
  bit_read h = rw (eq-eqb anew 1 h)

  pub bit_kept : (anew ≡ 1 → ⊥) → next_bit anew value p i ≡ got value i
  unfolding next_bit
  bit_kept h = rw (ne_eqb anew 1 h)

  go_bit : value ≤ 1 → (t : Bool) (v e : ℕ) → pick t (field 1) (pure value) p i ≡ got v e → v ≤ 1
  go_bit l true v e h = omega (arith, field_lt 1 p i h)
  go_bit l false v e h = let z : value ≡ v = cc in omega (arith, z)

  pub bit_most : value ≤ 1 → {v e : ℕ} → next_bit anew value p i ≡ got v e → v ≤ 1
  unfolding next_bit
  bit_most l h = go_bit l (eqb anew 1) _ _ h

-- ---- the tables
pub most_small : (code : RunCode) → most code ≤ 6
unfolding most
most_small Long = omega arith
most_small Short = omega arith

pub start_small : (code : RunCode) (r : ℕ) → r < 7 → start code r ≤ 34
unfolding start
start_small Long r h = (between 1 34 (1 ∷ 2 ∷ 4 ∷ 6 ∷ 10 ∷ 18 ∷ 34 ∷ []) tt r h).1
start_small Short r h = (between 0 34 (1 ∷ 3 ∷ 5 ∷ 7 ∷ 11 ∷ 15 ∷ 0 ∷ []) tt r h).1

pub extra_small : (code : RunCode) (r : ℕ) → r < 7 → extra code r ≤ 12
unfolding extra
extra_small Long r h = (between 0 12 (0 ∷ 1 ∷ 1 ∷ 2 ∷ 3 ∷ 4 ∷ 12 ∷ []) tt r h).1
extra_small Short r h = (between 0 12 (1 ∷ 1 ∷ 1 ∷ 2 ∷ 2 ∷ 4 ∷ 0 ∷ []) tt r h).1

start_some : (code : RunCode) (r : ℕ) → r ≤ most code → 1 ≤ start code r
unfolding start most
start_some Long r h = (between 1 34 (1 ∷ 2 ∷ 4 ∷ 6 ∷ 10 ∷ 18 ∷ 34 ∷ []) tt r (omega arith)).0
start_some Short r h = first (between 1 34 (1 ∷ 3 ∷ 5 ∷ 7 ∷ 11 ∷ 15 ∷ []) tt r (omega arith)).0 (get_or-append (1 ∷ 3 ∷ 5 ∷ 7 ∷ 11 ∷ 15 ∷ []) (0 ∷ []) 0 r (omega arith))
  where
    first : {a b : ℕ} → 1 ≤ a → b ≡ a → 1 ≤ b
    first h e = omega arith

-- ---- a run
length_some : (code : RunCode) (p : List ℕ) (i r e : ℕ) → run_length code p i ≡ got r e → 1 ≤ r
unfolding run_length
length_some code p i r e h =
    let u = bind_got (unary (most code) 0) (λ r. bind (field (extra code r)) (λ x. pure (start code r + x))) p i h in
    let v = bind_got (field (extra code u.0)) (λ x. pure (start code u.0 + x)) p u.1 u.3 in
    let z : start code u.0 + v.0 ≡ r = cc in
    omega (arith, z, start_some code u.0 (omega (arith, unary_most (most code) 0 p i u.0 u.1 u.2)))

module _ (code : RunCode) (p : List ℕ) (i : ℕ) where
  pub run_end : {k e : ℕ} → unary (most code) 0 p i ≡ refused k e → run code p i ≡ refused k i
  unfolding run run_length
  run_end {k} {e} h = whole_refused (run_length code) p i {k = k} {e = e} (rw h)

  pub run_cut : {r e k d : ℕ} → unary (most code) 0 p i ≡ got r e → field (extra code r) p e ≡ refused k d → run code p i ≡ refused k i
  unfolding run run_length
  run_cut {r} {e} {k} {d} h f = whole_refused (run_length code) p i {k = k} {e = d} (rw (h, f))

  pub run_got : {r e x d : ℕ} → unary (most code) 0 p i ≡ got r e → field (extra code r) p e ≡ got x d → run code p i ≡ got (start code r + x) d
  unfolding run run_length
  run_got h f = whole_got (run_length code) p i (rw (h, f))

  -- a run has a bit at least
  pub run_some : (r e : ℕ) → run code p i ≡ got r e → 1 ≤ r
  unfolding run
  run_some r e h = whole_cases (run_length code) p i (λ a d s w. length_some code p i r e (s ∙ (sym w ∙ h))) (λ k d s w. no_mix (sym h ∙ w))

-- ---- one run more of a string
module _ (code : RunCode) (n : ℕ) (p : List ℕ) (i : ℕ) (s : Sent) where
  pub one_bit : {k e : ℕ} → next_bit s.anew s.value p i ≡ refused k e → one_run code n s p i ≡ refused k e
  unfolding one_run
  one_bit f = rw f

  pub one_end : {b e k d : ℕ} → next_bit s.anew s.value p i ≡ got b e → run code p e ≡ refused k d → one_run code n s p i ≡ refused k d
  unfolding one_run
  one_end f g = rw (f, g)

  pub one_past : {b e r d : ℕ} → next_bit s.anew s.value p i ≡ got b e → run code p e ≡ got r d → n < length s.done + r → one_run code n s p i ≡ refused 12 e
  unfolding one_run
  one_past f g h = rw (f, g, lt-leb _ _ h)

  pub one_got : {b e r d : ℕ} → next_bit s.anew s.value p i ≡ got b e → run code p e ≡ got r d → length s.done + r ≤ n
      → one_run code n s p i ≡ got (record { done = s.done ++ replicate r b; value = 1 - b; anew = fresh r }) d
  unfolding one_run
  one_got f g h = rw (f, g, le-leb _ _ h)

  module _ (l : length s.done < n) where
    until_refused : (fuel : ℕ) → 0 < fuel → {j e : ℕ} → one_run code n s p i ≡ refused j e → until (complete n) (one_run code n) 12 fuel s p i ≡ refused j e
    unfolding until
    until_refused fuel h f = let z : fuel ≡ suc (fuel - 1) = omega arith in rw (z, lt-leb _ _ l, f)

    until_suc : (j : ℕ) {t : Sent} {e : ℕ} → one_run code n s p i ≡ got t e → until (complete n) (one_run code n) 12 (suc j) s p i ≡ until (complete n) (one_run code n) 12 j t p e
    unfolding until
    until_suc j f = rw (lt-leb _ _ l, f)

    until_got : (fuel : ℕ) → 0 < fuel → {t : Sent} {e : ℕ} → one_run code n s p i ≡ got t e → until (complete n) (one_run code n) 12 fuel s p i ≡ until (complete n) (one_run code n) 12 (fuel - 1) t p e
    until_got fuel h f = let z : fuel ≡ suc (fuel - 1) = omega arith in ap (λ (m : ℕ). until (complete n) (one_run code n) 12 m s p i) z ∙ until_suc (fuel - 1) f

until_done : (code : RunCode) (n : ℕ) (p : List ℕ) (i : ℕ) (s : Sent) (fuel : ℕ) → n ≤ length s.done → until (complete n) (one_run code n) 12 fuel s p i ≡ got s i
unfolding until
until_done code n p i s zero h = rw (le-leb _ _ h)
until_done code n p i s (suc fuel) h = rw (le-leb _ _ h)

-- ---- what is left of a string, with turns enough: the loop's invariant
module _ (code : RunCode) (p : List ℕ) (first n : ℕ) where
  abbrev pub sent_at : List ℕ → ℕ → ℕ → ℕ → Sent
  sent_at out filled value anew = record { done = take filled out; value = value; anew = anew }

  abbrev pub Goes : List ℕ → ℕ → ℕ → ℕ → ℕ → Type 0
  Goes out filled value anew place = (fuel : ℕ) × (n ≤ filled + fuel) × (sent code n p first ≡ until (complete n) (one_run code n) 12 fuel (sent_at out filled value anew) p place)

  pub goes_start : (out : List ℕ) → Goes out 0 0 1 first
  unfolding sent
  goes_start out = (n, omega arith, refl)

  module _ (out : List ℕ) (filled value anew place : ℕ) (g : Goes out filled value anew place) (room : n ≡ length out) where
    abbrev s : Sent
    s = sent_at out filled value anew

    pub goes_done : n ≤ filled → filled ≤ n → bit_string code n p first ≡ got out place
    unfolding bit_string
    goes_done h l =
        rw (g.2 ∙ until_done code n p place s g.0 (rw (length-take-le filled out (omega arith)) h)) (ap (λ (d : List ℕ). got d place) (take_all filled out (omega arith)))

    module _ (l : filled < n) where
      so_long : length (take filled out) ≡ filled
      so_long = length-take-le filled out (omega arith)

      short : length s.done < n
      short = rw so_long l

      fuelled : 0 < g.0
      fuelled = omega (arith, g.1)

      goes_refused : {j e : ℕ} → one_run code n s p place ≡ refused j e → bit_string code n p first ≡ refused j e
      unfolding bit_string
      goes_refused f = rw (g.2 ∙ until_refused code n p place s short g.0 fuelled f)

      pub goes_bit : {k e : ℕ} → next_bit anew value p place ≡ refused k e → bit_string code n p first ≡ refused k e
      goes_bit f = goes_refused (one_bit code n p place s f)

      pub goes_end : {b e k d : ℕ} → next_bit anew value p place ≡ got b e → run code p e ≡ refused k d → bit_string code n p first ≡ refused k d
      goes_end f h = goes_refused (one_end code n p place s f h)

      pub goes_past : {b e r d : ℕ} → next_bit anew value p place ≡ got b e → run code p e ≡ got r d → n - filled < r → bit_string code n p first ≡ refused 12 e
      goes_past f h q = goes_refused (one_past code n p place s f h (rw so_long (omega arith)))

      pub goes_run : {b e r d : ℕ} → next_bit anew value p place ≡ got b e → run code p e ≡ got r d → r ≤ n - filled
          → Goes (filled_to out filled r b) (filled + r) (1 - b) (fresh r) d
      goes_run {b} {e} {r} {d} f h q =
          let z : take (filled + r) (filled_to out filled r b) ≡ take filled out ++ replicate r b = filled_front out filled r b (omega arith) in (
            g.0 - 1,
            omega (arith, g.1, run_some code p e r d h),
            rw z (g.2 ∙ until_got code n p place s short g.0 fuelled (one_got code n p place s f h (rw so_long (omega arith)))),
          )
