-- A report that is being added to, number by number. Assumes nothing.
use Prim.Native.Nat.{ℕ, ◌+◌, ◌^◌, ◌≤◌, ◌<◌}
use native.Mathlib.Omega.{arith}
use mathlib.Core.Path.{◌≡◌, refl, sym, ap, ◌∙◌, subst}
use mathlib.Core.Bool.{Bool, true, false, ◌||◌}
use mathlib.Core.List.{List}
use lib.Dec.{ltb, eqb}
use lib.ListN.{length, get_or, set, get_or-eq_default}
use lib.Seq.{get_or-set_same, get_or-set_other}
use borrow.Author.Tests.{ltb-true, ltb-false, eqb-true, eqb-false}
use Rattle.bitstream.specs.Reading.{choose}
use Rattle.report.specs.declared.Running.{Running}
use Rattle.report.specs.declared.Sum.{Sum}
use Rattle.report.specs.Report.{report_size, plus, fits}
use Rattle.report.specs.Running.{sum_of, Runs, sum_number, report_after}
use Rattle.report.proofs.Sums.{by_elements, plus_long, plus_at, fits_all, fits_not, past_stays}

below_not : (j i : ℕ) → (j ≡ i → ⊥) → j < i + 1 → j < i
below_not j i d z = go (ltb j i) refl
  where
    go : (b : Bool) → ltb j i ≡ b → j < i
    go true e = ltb-true j i e
    go false e = let h = ltb-false j i e in let q : j ≡ i = omega arith in absurd (d q)

-- the first i numbers of l have got theirs of m
pub record Midway (l m : List ℕ) (numbers : List ℕ) (passed : Bool) (i : ℕ) : Type 0 where
  pub done : passed ≡ false → (j : ℕ) → j < i → (get_or numbers j 0 ≡ get_or l j 0 + get_or m j 0) × (get_or l j 0 + get_or m j 0 < 2 ^ 64)
  pub left : passed ≡ false → (j : ℕ) → i ≤ j → get_or numbers j 0 ≡ get_or l j 0
  pub past : passed ≡ true → fits (plus l m) ≡ false

module _ (l m : List ℕ) (hl : length l ≡ report_size) (hm : length m ≡ report_size) where
  pub midway_first : (r : Running) → Runs r l → Midway l m r.numbers r.passed 0
  midway_first r h = record {
    done = λ p j k. absurd (omega arith);
    left = λ p j k. ap (λ (x : List ℕ). get_or x j 0) (h.kept p).0;
    past = λ p. past_stays l m (hl ∙ sym hm) (h.past p);
  }

  pub midway_last : (r : Running) → length r.numbers ≡ report_size → Midway l m r.numbers r.passed report_size → Runs r (plus l m)
  midway_last r hn w = record {
    long = long;
    kept = λ p. (
      by_elements r.numbers (plus l m) (hn ∙ sym long) (λ i k. (w.done p i (omega arith)).0 ∙ sym (plus_at l m (hl ∙ sym hm) i)),
      fits_all (plus l m) (below p),
    );
    past = w.past;
  }
    where
      long : length (plus l m) ≡ report_size
      long = plus_long l m (hl ∙ sym hm) ∙ hl

      below : r.passed ≡ false → (i : ℕ) → get_or (plus l m) i 0 < 2 ^ 64
      below p i = go (ltb i report_size) refl
        where
          go : (b : Bool) → ltb i report_size ≡ b → get_or (plus l m) i 0 < 2 ^ 64
          go true k = let e = plus_at l m (hl ∙ sym hm) i in let z = (w.done p i (ltb-true i report_size k)).1 in omega (arith, e, z)
          go false k = let e = get_or-eq_default (plus l m) 0 {n = i} (omega (arith, long, ltb-false i report_size k)) in omega (arith, e)

  -- one number more
  module _ (numbers : List ℕ) (i : ℕ) (k : i < report_size) (hn : length numbers ≡ report_size) where
    other : (v j : ℕ) → (j ≡ i → ⊥) → get_or (set numbers i v) j 0 ≡ get_or numbers j 0
    other v j d = get_or-set_other numbers i j v 0 d

    on_sum : (passed : Bool) → Midway l m numbers passed i → get_or numbers i 0 + get_or m i 0 < 2 ^ 64 → Midway l m (set numbers i (get_or numbers i 0 + get_or m i 0)) (passed || false) (i + 1)
    on_sum true w b = record { done = λ z. let y : ◌≡◌ {A = ℕ} 0 1 = cc in absurd (omega arith); left = λ z. let y : ◌≡◌ {A = ℕ} 0 1 = cc in absurd (omega arith); past = w.past }
    on_sum false w b = record {
      done = λ _ j z. go j z (eqb j i) refl;
      left = λ _ j z. other _ j (λ d. omega arith) ∙ w.left refl j (omega arith);
      past = λ z. let y : ◌≡◌ {A = ℕ} 0 1 = cc in absurd (omega arith);
    }
      where
        here : get_or numbers i 0 ≡ get_or l i 0
        here = w.left refl i (omega arith)

        Added : ℕ → Type 0
        Added j = (get_or (set numbers i (get_or numbers i 0 + get_or m i 0)) j 0 ≡ get_or l j 0 + get_or m j 0) × (get_or l j 0 + get_or m j 0 < 2 ^ 64)

        at : Added i
        at = (get_or-set_same numbers i (get_or numbers i 0 + get_or m i 0) 0 (omega (arith, hn)) ∙ ap (λ (x : ℕ). x + get_or m i 0) here, omega (arith, here, b))

        go : (j : ℕ) → j < i + 1 → (t : Bool) → eqb j i ≡ t → Added j
        go j z true e = subst Added (sym (eqb-true j i e)) at
        go j z false e = let d = eqb-false j i e in let q = w.done refl j (below_not j i d z) in (other _ j d ∙ q.0, q.1)

    on_past : (passed : Bool) → Midway l m numbers passed i → 2 ^ 64 ≤ get_or numbers i 0 + get_or m i 0 → Midway l m (set numbers i (get_or numbers i 0)) (passed || true) (i + 1)
    on_past true w b = record { done = λ z. let y : ◌≡◌ {A = ℕ} 0 1 = cc in absurd (omega arith); left = λ z. let y : ◌≡◌ {A = ℕ} 0 1 = cc in absurd (omega arith); past = w.past }
    on_past false w b = record {
      done = λ z. let y : ◌≡◌ {A = ℕ} 0 1 = cc in absurd (omega arith);
      left = λ z. let y : ◌≡◌ {A = ℕ} 0 1 = cc in absurd (omega arith);
      past = λ _. fits_not (plus l m) i (omega (arith, plus_at l m (hl ∙ sym hm) i, w.left refl i (omega arith), b));
    }

    pub midway_next : (passed : Bool) → Midway l m numbers passed i → (s : Sum) → s ≡ sum_of (get_or numbers i 0) (get_or m i 0) → Midway l m (set numbers i s.is) (passed || s.past) (i + 1)
    midway_next passed w s e = subst (λ (s : Sum). Midway l m (set numbers i s.is) (passed || s.past) (i + 1)) (sym e) (go (ltb (get_or numbers i 0 + get_or m i 0) (2 ^ 64)) refl)
      where
        go : (t : Bool) → ltb (get_or numbers i 0 + get_or m i 0) (2 ^ 64) ≡ t
            → let s = choose {X = Sum} t (record { is = get_or numbers i 0 + get_or m i 0; past = false }) (record { is = get_or numbers i 0; past = true }) in Midway l m (set numbers i s.is) (passed || s.past) (i + 1)
        go true f = on_sum passed w (ltb-true _ _ f)
        go false f = on_past passed w (ltb-false _ _ f)

pub at_end : (i : ℕ) → report_size ≤ i → i ≤ 34 → (l m numbers : List ℕ) (passed : Bool) → Midway l m numbers passed i → Midway l m numbers passed report_size
at_end i a b l m numbers passed w = let e : i ≡ report_size = omega arith in subst (Midway l m numbers passed) e w

-- a report as it is lent: each number has 64 bits
pub begun : (l : List ℕ) → length l ≡ report_size → ((i : ℕ) → get_or l i 0 < 2 ^ 64) → (numbers : List ℕ) → numbers ≡ l → Runs (record { numbers = numbers; passed = false }) l
begun l h below numbers e = record { long = h; kept = λ _. (e, fits_all l below); past = λ z. let y : ◌≡◌ {A = ℕ} 0 1 = cc in absurd (omega arith) }

-- the sums are stored, or 15 leaves the report as it was
module _ (r : Running) (l report : List ℕ) (h : Runs r l) where
  pub not_stored : r.passed ≡ true → (15 ≡ sum_number l) × (report ≡ report_after l report)
  not_stored p = rw (h.past p) (refl, refl)

  pub stored : r.passed ≡ false → (after : List ℕ) → after ≡ r.numbers → (0 ≡ sum_number l) × (after ≡ report_after l report)
  stored p after e = let k = h.kept p in rw k.1 (refl, e ∙ k.0)
