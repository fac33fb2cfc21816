-- The coded blocks, block by block in coded order. Assumes nothing.
use Prim.Native.Nat.{ℕ, zero, suc, ◌+◌, ◌≤◌, ◌<◌}
use native.Mathlib.Omega.{arith}
use native.Mathlib.Numerals.{add-one}
use mathlib.Core.Path.{◌≡◌, refl, sym, ap, ◌∙◌, subst}
use mathlib.Core.List.{List, [], ◌∷◌, ◌++◌, append-nil, append_assoc}
use mathlib.Core.Bool.{Bool, true, false}
use lib.Dec.{eqb}
use lib.ListN.{length, get_or, take, drop, set, take-append-drop, drop_of_length-le}
use lib.Seq.{take-suc-set, drop-set-lt, drop-drop, length-take-le}
use Rattle.bitstream.specs.Reading.{choose}
use Rattle.block_record.specs.Record.{now_coded}
use Rattle.block_record.specs.Packed.{packed}
use Rattle.coded_flags.specs.Coded.{flagged, set_at}
use Rattle.super_list.specs.Listing.{Listing, Goes, NoneSet}
use Rattle.bitstream.proofs.ListLaws.{drop_next, if_other}

flagged_step : (bs flags : List ℕ) (i : ℕ) → i < length bs → i < length flags
    → flagged (drop i bs) (drop i flags) ≡ choose (eqb (get_or flags i 0) 1) (get_or bs i 0 ∷ flagged (drop (i + 1) bs) (drop (i + 1) flags)) (flagged (drop (i + 1) bs) (drop (i + 1) flags))
unfolding flagged
flagged_step bs flags i hb hf = rw (drop_next bs i hb, drop_next flags i hf)

flagged_done : (bs flags : List ℕ) (i : ℕ) → length bs ≤ i → flagged (drop i bs) (drop i flags) ≡ []
unfolding flagged
flagged_done bs flags i h = rw (drop_of_length-le bs h)

pub listing_start : (bs flags records coded : List ℕ) → Listing bs flags records coded records coded 0 0
listing_start bs flags records coded = record { fewer = omega arith; numbers = refl; behind = refl; marks = refl }

module _ (bs flags records₀ coded₀ records coded : List ℕ) (count i : ℕ) (l : Listing bs flags records₀ coded₀ records coded count i) where
  pub listing_on : i < length bs → i < length flags → count < length coded → let t = eqb (get_or flags i 0) 1 in let n = get_or bs i 0 in
      Listing bs flags records₀ coded₀ (choose t (set records n (packed now_coded)) records) (choose t (set coded count n) coded) (choose t (count + 1) count) (i + 1)
  unfolding set_at
  listing_on hb hf hc = go (eqb (get_or flags i 0) 1) (flagged_step bs flags i hb hf)
    where
      go : (t : Bool) → let n = get_or bs i 0 in let more = flagged (drop (i + 1) bs) (drop (i + 1) flags) in flagged (drop i bs) (drop i flags) ≡ choose t (n ∷ more) more
          → Listing bs flags records₀ coded₀ (choose t (set records n (packed now_coded)) records) (choose t (set coded count n) coded) (choose t (count + 1) count) (i + 1)
      go true s =
          let n = get_or bs i 0 in
          let more = flagged (drop (i + 1) bs) (drop (i + 1) flags) in
          let z = add-one count in
          let a : take (count + 1) (set coded count n) ≡ take count coded ++ n ∷ [] = rw z (take-suc-set coded count n hc) in
          let d : drop (count + 1) coded ≡ drop (count + 1) coded₀ = sym (drop-drop 1 count coded) ∙ ap (drop 1) l.behind ∙ drop-drop 1 count coded₀ in
          record {
            fewer = omega (arith, l.fewer);
            numbers = l.numbers ∙ ap (λ (x : List ℕ). take count coded ++ x) s ∙ sym (append_assoc (take count coded) (n ∷ []) more) ∙ ap (λ (x : List ℕ). x ++ more) (sym a);
            behind = drop-set-lt (count + 1) coded count n (omega arith) ∙ d;
            marks = l.marks ∙ ap (λ (x : List ℕ). set_at (packed now_coded) x records) s;
          }
      go false s =
          record {
            fewer = omega (arith, l.fewer);
            numbers = l.numbers ∙ ap (λ (x : List ℕ). take count coded ++ x) s;
            behind = l.behind;
            marks = l.marks ∙ ap (λ (x : List ℕ). set_at (packed now_coded) x records) s;
          }

  -- all blocks are done
  module _ (r : length bs ≤ i) (hc : count ≤ length coded) where
    all : flagged bs flags ≡ take count coded
    all = l.numbers ∙ ap (λ (x : List ℕ). take count coded ++ x) (flagged_done bs flags i r) ∙ append-nil (take count coded)

    pub listing_count : count ≡ length (flagged bs flags)
    listing_count = sym (ap length all ∙ length-take-le count coded hc)

    pub listing_numbers : coded ≡ flagged bs flags ++ drop (length (flagged bs flags)) coded₀
    listing_numbers =
        let e = listing_count in
        sym (take-append-drop count coded) ∙ (λ i. sym all i ++ l.behind i) ∙ ap (λ (n : ℕ). flagged bs flags ++ drop n coded₀) e

    pub listing_marks : records ≡ set_at (packed now_coded) (flagged bs flags) records₀
    unfolding set_at
    listing_marks = sym (l.marks ∙ ap (λ (x : List ℕ). set_at (packed now_coded) x records) (flagged_done bs flags i r))

-- over the lists and the number that a program has in its variables
pub listing_by : (bs flags records₀ coded₀ records coded : List ℕ) (count i : ℕ) → Listing bs flags records₀ coded₀ records coded count i → i < length bs → i < length flags → count < length coded
    → (records' coded' : List ℕ) (count' : ℕ) → let t = eqb (get_or flags i 0) 1 in let n = get_or bs i 0 in
    count' ≡ choose t (count + 1) count → records' ≡ choose t (set records n (packed now_coded)) records → coded' ≡ choose t (set coded count n) coded → Listing bs flags records₀ coded₀ records' coded' count' (i + 1)
listing_by bs flags records₀ coded₀ records coded count i l hb hf hc records' coded' count' en er ec = rw (en, er, ec) (listing_on bs flags records₀ coded₀ records coded count i l hb hf hc)

module _ (bs flags records coded : List ℕ) (count i : ℕ) where
  pub goes_on : (records' coded' : List ℕ) (count' i' : ℕ) → Goes bs flags records coded count i records' coded' count' i' → i' < length bs → i' < length flags → count' < length coded'
      → (records'' coded'' : List ℕ) (count'' : ℕ) → let t = eqb (get_or flags i' 0) 1 in let n = get_or bs i' 0 in
      count'' ≡ choose t (count' + 1) count' → records'' ≡ choose t (set records' n (packed now_coded)) records' → coded'' ≡ choose t (set coded' count' n) coded'
      → Goes bs flags records coded count i records'' coded'' count'' (i' + 1)
  goes_on records' coded' count' i' g hb hf hc records'' coded'' count'' en er ec =
      λ records₀ coded₀ l. listing_by bs flags records₀ coded₀ records' coded' count' i' (g records₀ coded₀ l) hb hf hc records'' coded'' count'' en er ec

  -- the same, where the number of the block and the number of what is done are known by equations
  pub goes_next : (records' coded' : List ℕ) (count' i' n next : ℕ) → Goes bs flags records coded count i records' coded' count' i' → i' < length bs → i' < length flags
      → count' < length coded' → n ≡ get_or bs i' 0 → next ≡ i' + 1
      → (records'' coded'' : List ℕ) (count'' : ℕ) → let t = eqb (get_or flags i' 0) 1 in
      count'' ≡ choose t (count' + 1) count' → records'' ≡ choose t (set records' n (packed now_coded)) records' → coded'' ≡ choose t (set coded' count' n) coded'
      → Goes bs flags records coded count i records'' coded'' count'' next
  goes_next records' coded' count' i' n next g hb hf hc e d records'' coded'' count'' en er ec =
      rw d (goes_on records' coded' count' i' g hb hf hc records'' coded'' count'' en (rw (← e) er) (rw (← e) ec))

  pub goes_none : Goes bs flags records coded count i records coded count (i + 0)
  goes_none = let z : i ≡ i + 0 = omega arith in λ records₀ coded₀ g. subst (λ (k : ℕ). Listing bs flags records₀ coded₀ records coded count k) z g

  -- blocks of which none is flagged
  pub goes_over : (n : ℕ) → i + n ≤ length bs → i + n ≤ length flags → i + n ≤ length coded → count ≤ i → NoneSet flags i (i + n) → Goes bs flags records coded count i records coded count (i + n)
  unfolding NoneSet
  goes_over zero hb hf hc l o = goes_none
  goes_over (suc n) hb hf hc l o =
      let h = o (i + n) (omega arith) (omega arith) in
      let z : i + n + 1 ≡ i + suc n = omega arith in
      let r = goes_on records coded count (i + n) (goes_over n (omega arith) (omega arith) (omega arith) l (λ j a b. o j a (omega arith))) (omega arith) (omega arith) (omega arith) records coded count
      (if_other (get_or flags (i + n) 0) 1 _ _ h) (if_other (get_or flags (i + n) 0) 1 _ _ h) (if_other (get_or flags (i + n) 0) 1 _ _ h) in
      λ records₀ coded₀ g. subst (λ (k : ℕ). Listing bs flags records₀ coded₀ records coded count k) z (r records₀ coded₀ g)

-- one block more counts for at most one
pub counts_on : (a b count count' i : ℕ) → count ≤ i → count' ≡ choose (eqb a b) (count + 1) count → count' ≤ i + 1
counts_on a b count count' i l e = rw e (go (eqb a b))
  where
    go : (t : Bool) → choose t (count + 1) count ≤ i + 1
    go true = omega arith
    go false = omega arith
