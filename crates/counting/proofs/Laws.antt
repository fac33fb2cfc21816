-- Counting, step by step, and how many numbers that stand once lie within bounds. Assumes nothing.
use Prim.Native.Nat.{ℕ, zero, suc, ◌+◌, ◌-◌, ◌≤◌, ◌<◌}
use native.Mathlib.Omega.{arith}
use mathlib.Core.Path.{◌≡◌, refl, sym, ap, ◌∙◌}
use mathlib.Core.List.{List, [], ◌∷◌}
use mathlib.Core.Bool.{Bool, true, false, ◌&&◌}
use lib.Dec.{eqb, leb, ltb}
use lib.ListN.{length, get_or, set, drop, replicate, drop_of_length-le, length-set, get_or-replicate}
use lib.Seq.{get_or-set_same, get_or-set_other}
use borrow.Author.Tests.{ne_eqb, eqb-true, eqb-false, leb-true, leb-false, ltb-true, ltb-false, lt-ltb, le-ltb}
use Rattle.bitstream.specs.Reading.{choose}
use Rattle.bitstream.specs.Lists.{All, one, Other, Once, more}
use Rattle.bitstream.proofs.ListLaws.{drop_next}
use Rattle.bitstream.proofs.Lists.{tabulated_is}
use Rattle.geometry.specs.declared.PixelFormat.{PixelFormat}
use Rattle.frame_header.specs.declared.Kind.{Kind}
use Rattle.frame_header.specs.declared.Kind.TheVariants.{Intra, Inter, Repeat}
use Rattle.counting.specs.Counts.{count, count_within, mode_count, mode_counts, no_counts, block_counts, frame_counts}

-- ---- one number more
module _ (such : ℕ → Bool) where
  count_cons : (n : ℕ) (l : List ℕ) → count such (n ∷ l) ≡ choose (such n) 1 0 + count such l
  unfolding count
  count_cons n l = refl

  count_none : count such [] ≡ 0
  unfolding count
  count_none = refl

  pub count_step : (l : List ℕ) (i : ℕ) → i < length l → count such (drop i l) ≡ choose (such (get_or l i 0)) 1 0 + count such (drop (i + 1) l)
  count_step l i h = ap (count such) (drop_next l i h) ∙ count_cons (get_or l i 0) (drop (i + 1) l)

  pub count_done : (l : List ℕ) (i : ℕ) → length l ≤ i → count such (drop i l) ≡ 0
  count_done l i h = ap (count such) (drop_of_length-le l {i = i} h) ∙ count_none

-- ---- the modes, one more: what is counted so far and what is to come is all
pub record ModesSoFar (modes counts : List ℕ) (i : ℕ) : Type 0 where
  pub long : length counts ≡ 8
  pub few : (m : ℕ) → m < 8 → get_or counts m 0 ≤ i
  pub so_far : (m : ℕ) → m < 8 → get_or counts m 0 + mode_count (drop i modes) m ≡ mode_count modes m

pub modes_start : (modes : List ℕ) → ModesSoFar modes (replicate 8 0) 0
modes_start modes = record {
  long = refl;
  few = λ m l. omega (arith, get_or-replicate {A = ℕ} 8 m 0 0 l);
  so_far = λ m l. omega (arith, get_or-replicate {A = ℕ} 8 m 0 0 l);
}

module _ (modes counts : List ℕ) (i : ℕ) (h : i < length modes) (b : get_or modes i 0 < 8) (s : ModesSoFar modes counts i) where
  abbrev v : ℕ
  v = get_or modes i 0

  abbrev next : List ℕ
  next = set counts v (get_or counts v 0 + 1)

  next_at : (m : ℕ) → m < 8 → (t : Bool) → eqb v m ≡ t → (get_or next m 0 ≤ i + 1) × (get_or next m 0 + mode_count (drop (i + 1) modes) m ≡ mode_count modes m)
  next_at m l true e =
      let z : v ≡ m = eqb-true v m e in
      let g : get_or next m 0 ≡ get_or counts m 0 + 1 = ap (λ (k : ℕ). get_or next k 0) (sym z) ∙ get_or-set_same counts v (get_or counts v 0 + 1) 0 (omega (arith, s.long)) ∙ ap (λ (k : ℕ). get_or counts k 0 + 1) z in
      let c : mode_count (drop i modes) m ≡ 1 + mode_count (drop (i + 1) modes) m = count_step (λ n. eqb n m) modes i h ∙ ap (λ (t : Bool). choose t 1 0 + mode_count (drop (i + 1) modes) m) e in
      (omega (arith, s.few m l), omega (arith, s.so_far m l))
  next_at m l false e =
      let z : v ≡ m → ⊥ = eqb-false v m e in
      let g : get_or next m 0 ≡ get_or counts m 0 = get_or-set_other counts v m (get_or counts v 0 + 1) 0 (λ y. z (sym y)) in
      let c : mode_count (drop i modes) m ≡ 0 + mode_count (drop (i + 1) modes) m = count_step (λ n. eqb n m) modes i h ∙ ap (λ (t : Bool). choose t 1 0 + mode_count (drop (i + 1) modes) m) e in
      (omega (arith, s.few m l), omega (arith, s.so_far m l))

  pub modes_more : ModesSoFar modes next (i + 1)
  modes_more = record {
    long = length-set counts v (get_or counts v 0 + 1) ∙ s.long;
    few = λ m l. (next_at m l (eqb v m) refl).0;
    so_far = λ m l. (next_at m l (eqb v m) refl).1;
  }

module _ (modes counts : List ℕ) where
  pub modes_all : (i : ℕ) → length modes ≤ i → ModesSoFar modes counts i → counts ≡ mode_counts modes
  modes_all i h s = tabulated_is (mode_count modes) 8 counts s.long (λ m l. omega (arith, s.so_far m l, count_done (λ n. eqb n m) modes i h))

-- ---- numbers that stand once: a number is counted once at most
module _ (k : ℕ) where
  others_none : (l : List ℕ) → All (Other k) l → count (λ n. eqb n k) l ≡ 0
  others_none [] a = count_none (λ n. eqb n k)
  others_none (x ∷ l) (one h a) =
      count_cons (λ n. eqb n k) x l
      ∙ (λ i. choose (ne_eqb x k (λ y. h (sym y)) i) 1 0 + others_none l a i)

  pub once_most : (l : List ℕ) → Once l → count (λ n. eqb n k) l ≤ 1
  once_most [] o = omega (arith, count_none (λ n. eqb n k))
  once_most (x ∷ l) (more a o) = go (eqb x k) refl (once_most l o)
    where
      go : (t : Bool) → eqb x k ≡ t → count (λ n. eqb n k) l ≤ 1 → count (λ n. eqb n k) (x ∷ l) ≤ 1
      go true e r =
          let z : x ≡ k = eqb-true x k e in
          let c : count (λ n. eqb n k) (x ∷ l) ≡ 1 + count (λ n. eqb n k) l = count_cons (λ n. eqb n k) x l ∙ ap (λ (t : Bool). choose t 1 0 + count (λ n. eqb n k) l) e in
          omega (arith, others_none l (rw (← z) a))
      go false e r =
          let c : count (λ n. eqb n k) (x ∷ l) ≡ 0 + count (λ n. eqb n k) l = count_cons (λ n. eqb n k) x l ∙ ap (λ (t : Bool). choose t 1 0 + count (λ n. eqb n k) l) e in
          omega arith

-- ---- bounds
module _ (low : ℕ) where
  -- one number more above: those that are it are counted, too
  one_next : (hi n : ℕ) → low ≤ hi → choose (leb low n && ltb n (suc hi)) 1 0 ≡ choose (leb low n && ltb n hi) 1 0 + choose (eqb n hi) 1 0
  one_next hi n h = go (leb low n) (ltb n hi) (eqb n hi) refl refl refl
    where
      go : (a b e : Bool) → leb low n ≡ a → ltb n hi ≡ b → eqb n hi ≡ e → choose (a && ltb n (suc hi)) 1 0 ≡ choose (a && b) 1 0 + choose e 1 0
      go false b true ea eb ee = absurd (omega (arith, leb-false low n ea, eqb-true n hi ee))
      go false b false ea eb ee = refl
      go true true true ea eb ee = absurd (omega (arith, ltb-true n hi eb, eqb-true n hi ee))
      go true true false ea eb ee = ap (λ (t : Bool). choose t 1 0) (lt-ltb n (suc hi) (omega (arith, ltb-true n hi eb)))
      go true false true ea eb ee = ap (λ (t : Bool). choose t 1 0) (lt-ltb n (suc hi) (omega (arith, eqb-true n hi ee)))
      go true false false ea eb ee =
          let z = ltb-false n hi eb in
          let y : n ≡ hi → ⊥ = eqb-false n hi ee in
          ap (λ (t : Bool). choose t 1 0) (le-ltb n (suc hi) (omega arith))

  within_next : (hi : ℕ) (l : List ℕ) → low ≤ hi → count_within low (suc hi) l ≡ count_within low hi l + count (λ n. eqb n hi) l
  within_next hi [] h = omega (arith, count_none (λ n. leb low n && ltb n (suc hi)), count_none (λ n. leb low n && ltb n hi), count_none (λ n. eqb n hi))
  within_next hi (x ∷ l) h =
      omega (arith, one_next hi x h, within_next hi l h, count_cons (λ n. leb low n && ltb n (suc hi)) x l, count_cons (λ n. leb low n && ltb n hi) x l, count_cons (λ n. eqb n hi) x l)

  one_empty : (n : ℕ) → ◌≡◌ {A = ℕ} (choose (leb low n && ltb n low) 1 0) 0
  one_empty n = go (leb low n) (ltb n low) refl refl
    where
      go : (a b : Bool) → leb low n ≡ a → ltb n low ≡ b → ◌≡◌ {A = ℕ} (choose (a && b) 1 0) 0
      go false b ea eb = refl
      go true true ea eb = absurd (omega (arith, leb-true low n ea, ltb-true n low eb))
      go true false ea eb = refl

  within_empty : (l : List ℕ) → count_within low low l ≡ 0
  within_empty [] = count_none (λ n. leb low n && ltb n low)
  within_empty (x ∷ l) = omega (arith, count_cons (λ n. leb low n && ltb n low) x l, one_empty x, within_empty l)

  within_few : (l : List ℕ) → Once l → (k hi : ℕ) → hi ≡ low + k → count_within low hi l ≤ k
  within_few l o zero hi e = let z : low ≡ hi = omega arith in omega (arith, ap (λ (m : ℕ). count_within low m l) z, within_empty l)
  within_few l o (suc k) hi e =
      let z : suc (low + k) ≡ hi = omega arith in
      omega (arith, ap (λ (m : ℕ). count_within low m l) z, within_next (low + k) l (omega arith), within_few l o k (low + k) refl, once_most (low + k) l o)

  -- numbers that stand once are no more within bounds than the bounds hold
  pub once_within : (hi : ℕ) (l : List ℕ) → low ≤ hi → Once l → count_within low hi l ≤ hi - low
  once_within hi l h o = within_few l o (hi - low) hi (omega arith)

-- ---- a frame by its kind
module _ (f : PixelFormat) (w h : ℕ) (coded modes : List ℕ) (kind : Kind) where
  pub intra_counts : kind ≡ Intra → block_counts f w h coded (replicate 8 0) ≡ frame_counts f w h kind coded modes
  unfolding frame_counts
  intra_counts k = rw k refl

  pub inter_counts : kind ≡ Inter → block_counts f w h coded (mode_counts modes) ≡ frame_counts f w h kind coded modes
  unfolding frame_counts
  inter_counts k = rw k refl

  pub repeat_counts : kind ≡ Repeat → no_counts ≡ frame_counts f w h kind coded modes
  unfolding frame_counts
  repeat_counts k = rw k refl

-- the modes count in an inter frame alone
pub same_counts : (f : PixelFormat) (w h : ℕ) (kind : Kind) {coded coded' modes modes' : List ℕ} → coded ≡ coded' → (kind ≡ Inter → modes ≡ modes') → frame_counts f w h kind coded modes ≡ frame_counts f w h kind coded' modes'
unfolding frame_counts
same_counts f w h Intra c m = ap (λ (l : List ℕ). block_counts f w h l (replicate 8 0)) c
same_counts f w h Inter c m = let z = m refl in λ i. block_counts f w h (c i) (mode_counts (z i))
same_counts f w h Repeat c m = refl
