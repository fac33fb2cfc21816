-- The coded blocks: no number stands twice, each is a block's, luma's are no more than all, and a block's record says what its flag says. Assumes nothing.
use Prim.Native.Nat.{ℕ, zero, suc, ◌+◌, ◌*◌, ◌≤◌, ◌<◌}
use native.Mathlib.Omega.{arith}
use native.Mathlib.Nat.{le_of_suc-le-suc, not-suc-le-zero}
use mathlib.Core.Path.{◌≡◌, refl, sym, ap, ◌∙◌, subst}
use mathlib.Core.List.{List, [], ◌∷◌, ◌++◌}
use mathlib.Core.Bool.{Bool, true, false, true≢false}
use mathlib.Core.Logic.{◌⊎◌, inl, inr, ⊎_elim}
use lib.Dec.{eqb}
use lib.ListN.{length, get_or, take, drop, set, replicate, length-append, length-set, length-replicate, get_or-replicate}
use lib.Seq.{get_or-set_same, get_or-set_other, length-take-le}
use borrow.Author.Tests.{eq-eqb, ne_eqb, eqb-true, eqb-false}
use Rattle.bitstream.specs.Reading.{choose}
use Rattle.bitstream.specs.Lists.{more, empty, Once, Other, AllBelow, one, none, All}
use Rattle.bitstream.proofs.ListLaws.{once_of, all_of, all_at, set_cases}
use Rattle.geometry.specs.declared.PixelFormat.{PixelFormat}
use Rattle.geometry.specs.declared.Block.{Block}
use Rattle.geometry.specs.Sizes.{across, up, plane_blocks, blocks_before, blocks_of}
use Rattle.geometry.specs.Frame.{block, InFrame, frame_order}
use Rattle.geometry.proofs.FrameLaws.{frame_back, frame_once}
use Rattle.geometry.proofs.Sums.{total_once}
use Rattle.geometry.proofs.Raster.{raster_below, raster_once}
use Rattle.geometry.proofs.SizeLaws.{before_planes}
use Rattle.block_record.specs.declared.BlockRecord.{BlockRecord}
use Rattle.block_record.specs.Record.{uncoded, now_coded}
use Rattle.block_record.proofs.MemoryLaws.{AllInRange, in_range_set, in_range_replicate}
use Rattle.geometry.specs.Raster.{raster_number}
use Rattle.coded_flags.specs.Flags.{ones}
use Rattle.coded_flags.specs.Coded.{order, flagged, coded_blocks, coded_luma, set_at, coded_records}
use Rattle.coded_flags.proofs.Order.{order_length, order_at, order_small, set_at_length}
use Rattle.coded_flags.proofs.Spread.{ones_most}

-- ---- those that are flagged
kept_all : {P : ℕ → Type 0} (x : ℕ) (l : List ℕ) (t : Bool) → P x → All P l → All P (choose t (x ∷ l) l)
kept_all x l true h a = one h a
kept_all x l false h a = a

flagged_all : {P : ℕ → Type 0} {bs : List ℕ} (flags : List ℕ) → All P bs → All P (flagged bs flags)
unfolding flagged
flagged_all flags none = none
flagged_all [] (one h a) = none
flagged_all (g ∷ flags) (one {x} {l} h a) = kept_all x (flagged l flags) (eqb g 1) h (flagged_all flags a)

flagged_once : {bs : List ℕ} (flags : List ℕ) → Once bs → Once (flagged bs flags)
unfolding flagged
flagged_once flags empty = empty
flagged_once [] (more a o) = empty
flagged_once (g ∷ flags) (more a o) = go (eqb g 1) (flagged_all flags a) (flagged_once flags o)
  where
    go : {x : ℕ} {l : List ℕ} (t : Bool) → All (Other x) l → Once l → Once (choose t (x ∷ l) l)
    go true a o = more a o
    go false a o = o

-- a flagged one is there, another is not
flagged_has : (bs flags : List ℕ) (i : ℕ) → i < length bs → i < length flags → get_or flags i 0 ≡ 1 → (k : ℕ) × (k < length (flagged bs flags)) × (get_or (flagged bs flags) k 0 ≡ get_or bs i 0)
unfolding flagged
flagged_has [] flags i hb hf e = absurd (not-suc-le-zero hb)
flagged_has (b ∷ bs) [] i hb hf e = absurd (not-suc-le-zero hf)
flagged_has (b ∷ bs) (g ∷ flags) zero hb hf e = rw (eq-eqb g 1 e) (0, omega arith, refl)
flagged_has (b ∷ bs) (g ∷ flags) (suc i) hb hf e = go (eqb g 1) (flagged_has bs flags i (le_of_suc-le-suc hb) (le_of_suc-le-suc hf) e)
  where
    go : (t : Bool) → (k : ℕ) × (k < length (flagged bs flags)) × (get_or (flagged bs flags) k 0 ≡ get_or bs i 0)
        → (k : ℕ) × (k < length (choose t (b ∷ flagged bs flags) (flagged bs flags))) × (get_or (choose t (b ∷ flagged bs flags) (flagged bs flags)) k 0 ≡ get_or bs i 0)
    go true r = (suc r.0, omega (arith, r.1), r.2)
    go false r = r

flagged_misses : {bs : List ℕ} (flags : List ℕ) (i : ℕ) → Once bs → i < length bs → (get_or flags i 0 ≡ 1 → ⊥) → All (Other (get_or bs i 0)) (flagged bs flags)
unfolding flagged
flagged_misses flags i empty hb e = none
flagged_misses [] i (more a o) hb e = none
flagged_misses (g ∷ flags) zero (more a o) hb e = rw (ne_eqb g 1 e) (flagged_all flags a)
flagged_misses (g ∷ flags) (suc i) (more {x} {l} a o) hb e =
    kept_all x (flagged l flags) (eqb g 1) (λ z. all_at i a (le_of_suc-le-suc hb) (sym z)) (flagged_misses flags i o (le_of_suc-le-suc hb) e)

-- ---- a value set at some places of a list
module _ {A : Type 0} (v d : A) where
  set_at_all : (P : A → Type 0) (ns : List ℕ) (l : List A) (n : ℕ) → P v → P (get_or l n d) → P (get_or (set_at v ns l) n d)
  unfolding set_at
  set_at_all P [] l n new old = old
  set_at_all P (m ∷ ns) l n new old = set_at_all P ns (set l m v) n new (set_cases P l m n v d (λ _. new) old)

  set_at_hit : (ns : List ℕ) (l : List A) (k : ℕ) → k < length ns → get_or ns k 0 < length l → get_or (set_at v ns l) (get_or ns k 0) d ≡ v
  unfolding set_at
  set_at_hit [] l k h r = absurd (not-suc-le-zero h)
  set_at_hit (n ∷ ns) l zero h r = set_at_all (λ x. x ≡ v) ns (set l n v) n refl (get_or-set_same l n v d r)
  set_at_hit (n ∷ ns) l (suc k) h r = set_at_hit ns (set l n v) k (le_of_suc-le-suc h) (rw length-set r)

  set_at_miss : (n : ℕ) {ns : List ℕ} (l : List A) → All (Other n) ns → get_or (set_at v ns l) n d ≡ get_or l n d
  unfolding set_at
  set_at_miss n l none = refl
  set_at_miss n l (one {x} h a) = set_at_miss n (set l x v) a ∙ get_or-set_other l x n v d h

-- a number stands in a list, or every number there is another
stands : (n : ℕ) (l : List ℕ) → ((k : ℕ) × (k < length l) × (get_or l k 0 ≡ n)) ⊎ All (Other n) l
stands n [] = inr none
stands n (x ∷ l) = go (eqb n x) refl (stands n l)
  where
    go : (t : Bool) → eqb n x ≡ t → ((k : ℕ) × (k < length l) × (get_or l k 0 ≡ n)) ⊎ All (Other n) l → ((k : ℕ) × (k < suc (length l)) × (get_or (x ∷ l) k 0 ≡ n)) ⊎ All (Other n) (x ∷ l)
    go true t r = inl (0, omega arith, sym (eqb-true n x t))
    go false t (inl r) = inl (suc r.0, omega (arith, r.1), r.2)
    go false t (inr a) = inr (one (eqb-false n x t) a)

-- ---- the flagged of two parts
flagged_split : (n : ℕ) (bs flags : List ℕ) → flagged bs flags ≡ flagged (take n bs) (take n flags) ++ flagged (drop n bs) (drop n flags)
unfolding flagged
flagged_split zero bs flags = refl
flagged_split (suc n) [] flags = refl
flagged_split (suc n) (b ∷ bs) [] = sym (flagged_none (drop n bs))
  where
    flagged_none : (l : List ℕ) → flagged l [] ≡ []
    flagged_none [] = refl
    flagged_none (x ∷ l) = refl
flagged_split (suc n) (b ∷ bs) (g ∷ flags) = go (flagged bs flags) (flagged (take n bs) (take n flags)) (flagged (drop n bs) (drop n flags)) (eqb g 1) (flagged_split n bs flags)
  where
    go : (l m q : List ℕ) (t : Bool) → l ≡ m ++ q → choose t (b ∷ l) l ≡ choose t (b ∷ m) m ++ q
    go l m q true e = ap (λ (x : List ℕ). b ∷ x) e
    go l m q false e = e

pub flagged_length : (bs flags : List ℕ) → length flags ≤ length bs → length (flagged bs flags) ≡ ones flags
unfolding flagged ones
flagged_length [] [] h = refl
flagged_length [] (g ∷ flags) h = absurd (not-suc-le-zero h)
flagged_length (b ∷ bs) [] h = refl
flagged_length (b ∷ bs) (g ∷ flags) h = go (eqb g 1) (flagged_length bs flags (le_of_suc-le-suc h))
  where
    go : (t : Bool) → length (flagged bs flags) ≡ ones flags → length (choose t (b ∷ flagged bs flags) (flagged bs flags)) ≡ choose t 1 0 + ones flags
    go true e = omega arith
    go false e = omega arith

-- ---- the raster numbers in coded order
module _ (f : PixelFormat) (w h : ℕ) where
  abbrev luma_blocks : ℕ
  luma_blocks = plane_blocks f w h 0

  abbrev block_at : ℕ → Block
  block_at i = get_or (frame_order f w h) i (block 0 0 0)

  -- different blocks have different raster numbers
  pub raster_number_once : (b b' : Block) → InFrame f w h b → InFrame f w h b' → raster_number f w h b ≡ raster_number f w h b' → b ≡ b'
  unfolding raster_number blocks_before
  raster_number_once b b' k k' e =
      let l = raster_below (across f w b.plane) (up f h b.plane) b.x b.y k.column k.row in
      let l' = raster_below (across f w b'.plane) (up f h b'.plane) b'.x b'.y k'.column k'.row in
      let p = total_once (plane_blocks f w h) b.plane (b.y * across f w b.plane + b.x) b'.plane (b'.y * across f w b'.plane + b'.x) l l' e in
      let a : across f w b.plane ≡ across f w b'.plane = ap (across f w) p.0 in
      let d : b.y * across f w b'.plane + b.x ≡ b'.y * across f w b'.plane + b'.x = ap (λ (n : ℕ). b.y * n + b.x) (sym a) ∙ p.1 in
      let q = raster_once (across f w b'.plane) b.x b.y b'.x b'.y (omega (arith, k.column, a)) k'.column d in
      λ i. block (p.0 i) (q.0 i) (q.1 i)

  order_once : Once (order f w h)
  order_once = once_of (order f w h) (λ i j hi hj e. go i j (omega (arith, order_length f w h)) (omega (arith, order_length f w h)) e)
    where
      go : (i j : ℕ) → i < blocks_of f w h → j < blocks_of f w h → get_or (order f w h) i 0 ≡ get_or (order f w h) j 0 → i ≡ j
      go i j hi hj e =
          frame_once f w h i j hi hj (raster_number_once (block_at i) (block_at j) (frame_back f w h i hi).0 (frame_back f w h j hj).0 (sym (order_at f w h i hi) ∙ e ∙ order_at f w h j hj))

  module _ (flags : List ℕ) where
    -- no number stands twice among the coded blocks
    pub coded_once : Once (coded_blocks f w h flags)
    unfolding coded_blocks
    coded_once = flagged_once flags order_once

    -- each is a block's
    pub coded_below : AllBelow (blocks_of f w h) (coded_blocks f w h flags)
    unfolding coded_blocks
    coded_below = flagged_all flags (all_of (order f w h) (λ i l. order_small f w h i (omega (arith, order_length f w h))))

    -- the record of a coded block says so, and a block whose record says so is one of them
    pub coded_is : (k : ℕ) → k < length (coded_blocks f w h flags) → get_or (coded_records f w h flags) (get_or (coded_blocks f w h flags) k 0) uncoded ≡ now_coded
    unfolding coded_records
    coded_is k l = set_at_hit now_coded uncoded (coded_blocks f w h flags) (replicate (blocks_of f w h) uncoded) k l (omega (arith, length-replicate (blocks_of f w h) uncoded, all_at k coded_below l))

    pub coded_every : (n : ℕ) → n < blocks_of f w h → (get_or (coded_records f w h flags) n uncoded).coded ≡ true
        → (k : ℕ) × (k < length (coded_blocks f w h flags)) × (get_or (coded_blocks f w h flags) k 0 ≡ n)
    unfolding coded_records
    coded_every n l c = ⊎_elim (λ there. there) (λ other. absurd (go other)) (stands n (coded_blocks f w h flags))
      where
        go : All (Other n) (coded_blocks f w h flags) → ⊥
        go other =
            let z = set_at_miss now_coded uncoded n (replicate (blocks_of f w h) uncoded) other ∙ get_or-replicate (blocks_of f w h) n uncoded uncoded l in
            true≢false (sym c ∙ ap (λ (r : BlockRecord). r.coded) z)

    -- nothing else is known yet of any block
    pub records_all : (P : BlockRecord → Type 0) → P now_coded → P uncoded → (n : ℕ) → P (get_or (coded_records f w h flags) n uncoded)
    unfolding coded_records
    records_all P new old n = set_at_all now_coded uncoded P (coded_blocks f w h flags) (replicate (blocks_of f w h) uncoded) n new (go (blocks_of f w h) n)
      where
        go : (k n : ℕ) → P (get_or (replicate k uncoded) n uncoded)
        go zero n = old
        go (suc k) zero = old
        go (suc k) (suc n) = go k n

    pub records_length : length (coded_records f w h flags) ≡ blocks_of f w h
    unfolding coded_records
    records_length = set_at_length now_coded (coded_blocks f w h flags) (replicate (blocks_of f w h) uncoded) ∙ length-replicate (blocks_of f w h) uncoded

    module _ (full : length flags ≡ blocks_of f w h) where
      pub coded_length : length (coded_blocks f w h flags) ≡ ones flags
      unfolding coded_blocks
      coded_length = flagged_length (order f w h) flags (omega (arith, order_length f w h))

      pub coded_most : length (coded_blocks f w h flags) ≤ blocks_of f w h
      coded_most = omega (arith, coded_length, ones_most flags)

      -- a block's record says what its flag says
      pub record_of_law : (i : ℕ) → i < blocks_of f w h → get_or (coded_records f w h flags) (get_or (order f w h) i 0) uncoded ≡ choose (eqb (get_or flags i 0) 1) now_coded uncoded
      unfolding coded_records coded_blocks
      record_of_law i l = go (eqb (get_or flags i 0) 1) refl
        where
          go : (t : Bool) → eqb (get_or flags i 0) 1 ≡ t → get_or (set_at now_coded (flagged (order f w h) flags) (replicate (blocks_of f w h) uncoded)) (get_or (order f w h) i 0) uncoded ≡ choose t now_coded uncoded
          go true q =
              let k = flagged_has (order f w h) flags i (omega (arith, order_length f w h)) (omega arith) (eqb-true (get_or flags i 0) 1 q) in
              let n = length-replicate (blocks_of f w h) uncoded in
              ap (λ (m : ℕ). get_or (set_at now_coded (flagged (order f w h) flags) (replicate (blocks_of f w h) uncoded)) m uncoded) (sym k.2)
              ∙ set_at_hit now_coded uncoded (flagged (order f w h) flags) (replicate (blocks_of f w h) uncoded) k.0 k.1 (subst (λ (m : ℕ). m < length (replicate (blocks_of f w h) uncoded)) (sym k.2) (omega (arith, n, order_small f w h i l)))
          go false q =
              set_at_miss now_coded uncoded (get_or (order f w h) i 0) (replicate (blocks_of f w h) uncoded) (flagged_misses flags i order_once (omega (arith, order_length f w h)) (eqb-false (get_or flags i 0) 1 q))
              ∙ get_or-replicate (blocks_of f w h) (get_or (order f w h) i 0) uncoded uncoded (order_small f w h i l)

      -- of the coded blocks, luma's are the flagged among the first of the order, and the others among the rest
      luma_fits : luma_blocks ≤ blocks_of f w h
      luma_fits = omega (arith, (before_planes f w h).2)

      luma_taken : length (take luma_blocks (order f w h)) ≡ luma_blocks
      luma_taken = length-take-le luma_blocks (order f w h) (omega (arith, luma_fits, order_length f w h))

      abbrev first : List ℕ
      first = flagged (take luma_blocks (order f w h)) (take luma_blocks flags)

      abbrev others : List ℕ
      others = flagged (drop luma_blocks (order f w h)) (drop luma_blocks flags)

      first_length : length first ≡ coded_luma f w h flags
      unfolding coded_luma
      first_length = flagged_length (take luma_blocks (order f w h)) (take luma_blocks flags) (omega (arith, luma_taken, length-take-le luma_blocks flags (omega (arith, luma_fits))))

      split : coded_blocks f w h flags ≡ first ++ others
      unfolding coded_blocks
      split = flagged_split luma_blocks (order f w h) flags

      pub luma_most : coded_luma f w h flags ≤ length (coded_blocks f w h flags)
      luma_most = omega (arith, first_length, ap length split, length-append first others)

-- the records are in their range, so that packing loses nothing of them
pub coded_in_range : (f : PixelFormat) (w h : ℕ) (flags : List ℕ) → AllInRange (coded_records f w h flags)
unfolding coded_records set_at
coded_in_range f w h flags =
    set_at_in_range (coded_blocks f w h flags) (replicate (blocks_of f w h) uncoded) (in_range_replicate (blocks_of f w h) uncoded (record { qi_index = omega arith; prediction = tt }))
  where
    set_at_in_range : (ns : List ℕ) (rs : List BlockRecord) → AllInRange rs → AllInRange (set_at now_coded ns rs)
    set_at_in_range [] rs a = a
    set_at_in_range (n ∷ ns) rs a = set_at_in_range ns (set rs n now_coded) (in_range_set rs n now_coded a (record { qi_index = omega arith; prediction = tt }))
