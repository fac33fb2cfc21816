-- How a macro block moves, step by step, and that its vectors stay in their range. Assumes nothing.
use Prim.Native.Nat.{ℕ, zero, suc, ◌%◌, ◌≤◌, ◌<◌}
use native.Mathlib.Omega.{arith}
use mathlib.Core.Path.{◌≡◌, subst}
use mathlib.Core.List.{List}
use mathlib.Core.Bool.{Bool, true, false}
use lib.Dec.{eqb, ltb}
use lib.IntN.{ℤ, ◌+ℤ◌, nat_abs}
use borrow.Author.Tests.{lt-ltb, le-ltb, eq-eqb, ne_eqb}
use Rattle.bitstream.specs.Reading.{Outcome, got, refused, bind, pure, pick, choose}
use Rattle.bitstream.proofs.Laws.{bind_got}
use Rattle.numeric.specs.Divide.{round_over}
use Rattle.numeric.proofs.Magnitude.{size, size_add}
use Rattle.numeric.proofs.RoundLaws.{size_round}
use Rattle.geometry.specs.declared.PixelFormat.{PixelFormat}
use Rattle.geometry.specs.declared.PixelFormat.TheVariants.{Chroma420, Chroma422, Chroma444}
use Rattle.block_record.specs.declared.Vector.{Vector}
use Rattle.block_record.specs.declared.Prediction.TheVariants.{Previous, Golden}
use Rattle.block_record.specs.Record.{VectorInRange, PredictionInRange}
use Rattle.motion.specs.declared.Row.{Row}
use Rattle.motion.specs.declared.Motion.{Motion}
use Rattle.motion.specs.declared.Motion.TheVariants.{One, Four}
use Rattle.motion.specs.declared.Moved.{Moved}
use Rattle.motion_reader.specs.declared.RowRead.{RowRead}
use Rattle.motion_reader.specs.declared.RowRead.TheVariants as row_read
use Rattle.motion_reader.specs.declared.MovedRead.{MovedRead}
use Rattle.motion_reader.specs.declared.MovedRead.TheVariants as moved-read
use Rattle.motion_reader.specs.Component.{vector}
use Rattle.motion_reader.specs.Motion.{motion, moving, moving_golden, if_coded, row, moving_four, mean_of_two, mean_of_four, luma_vector, chroma_vector, four_vector, prediction_of, as_row, as_moved}
use Rattle.motion.specs.Kept.{RowInRange, MotionInRange, MovedInRange, zero_vector, behind, still, last_read}
use Rattle.motion_reader.proofs.Components.{vector_small}
use Rattle.motion.proofs.Kept.{zero_small, still_small}

-- ---- what an answer says of the outcome o, by its arm
pub row_got : (o : Outcome Row) {r : RowRead} {v : Row} {e : ℕ} → r ≡ as_row o → r ≡ row_read.Got v e → o ≡ got v e
row_got (got a d) s g = cc
row_got (refused k d) s g = let z : ◌≡◌ {A = ℕ} 0 1 = cc in absurd (omega arith)

pub row_refused : (o : Outcome Row) {r : RowRead} {k e : ℕ} → r ≡ as_row o → r ≡ row_read.Refused k e → o ≡ refused k e
row_refused (got a d) s g = let z : ◌≡◌ {A = ℕ} 0 1 = cc in absurd (omega arith)
row_refused (refused k d) s g = cc

pub moved_got : (o : Outcome Moved) {r : MovedRead} {v : Moved} {e : ℕ} → r ≡ as_moved o → r ≡ moved-read.Got v e → o ≡ got v e
moved_got (got a d) s g = cc
moved_got (refused k d) s g = let z : ◌≡◌ {A = ℕ} 0 1 = cc in absurd (omega arith)

pub moved_refused : (o : Outcome Moved) {r : MovedRead} {k e : ℕ} → r ≡ as_moved o → r ≡ moved-read.Refused k e → o ≡ refused k e
moved_refused (got a d) s g = let z : ◌≡◌ {A = ℕ} 0 1 = cc in absurd (omega arith)
moved_refused (refused k d) s g = cc

-- ---- one vector
module _ (code : ℕ) (p : List ℕ) (i : ℕ) where
  module _ (last : Vector) where
    pub moving_end : {k e : ℕ} → vector code p i ≡ refused k e → moving code last p i ≡ refused k e
    unfolding moving
    moving_end f = rw f

    pub moving_sent : {v : Vector} {e : ℕ} → vector code p i ≡ got v e → moving code last p i ≡ got (behind (One (Previous v)) v last) e
    unfolding moving
    moving_sent f = rw f

  module _ (last last2 : Vector) where
    pub golden_end : {k e : ℕ} → vector code p i ≡ refused k e → moving_golden code last last2 p i ≡ refused k e
    unfolding moving_golden
    golden_end f = rw f

    pub golden_sent : {v : Vector} {e : ℕ} → vector code p i ≡ got v e → moving_golden code last last2 p i ≡ got (behind (One (Golden v)) last last2) e
    unfolding moving_golden
    golden_sent f = rw f

  pub coded_sent : (t : Bool) → t ≡ true → if_coded code t p i ≡ vector code p i
  unfolding if_coded
  coded_sent t h = rw h

  pub coded_none : (t : Bool) → t ≡ false → if_coded code t p i ≡ got zero_vector i
  unfolding if_coded
  coded_none t h = rw h

  coded_small : (t : Bool) {v : Vector} {e : ℕ} → if_coded code t p i ≡ got v e → VectorInRange v
  unfolding if_coded
  coded_small true h = vector_small code p i h
  coded_small false {v} h = let q : zero_vector ≡ v = cc in subst VectorInRange q zero_small

-- ---- a row of two
module _ (code : ℕ) (left right : Bool) (p : List ℕ) (i : ℕ) where
  pub row_end : {k e : ℕ} → if_coded code left p i ≡ refused k e → row code left right p i ≡ refused k e
  unfolding row
  row_end f = rw f

  pub row_cut : {v : Vector} {e k d : ℕ} → if_coded code left p i ≡ got v e → if_coded code right p e ≡ refused k d → row code left right p i ≡ refused k d
  unfolding row
  row_cut f g = rw (f, g)

  pub row_sent : {v u : Vector} {e d : ℕ} → if_coded code left p i ≡ got v e → if_coded code right p e ≡ got u d → row code left right p i ≡ got (record { left = v; right = u }) d
  unfolding row
  row_sent f g = rw (f, g)

  row_small : {r : Row} {e : ℕ} → row code left right p i ≡ got r e → RowInRange r
  unfolding row
  row_small {r} {e} h =
      let u = bind_got (if_coded code left) (λ v. bind (if_coded code right) (λ u. pure (record { left = v; right = u }))) p i h in
      let w = bind_got (if_coded code right) (λ v. pure (record { left = u.0; right = v })) p u.1 u.3 in
      go u.0 w.0 (coded_small code p i left u.2) (coded_small code p u.1 right w.2) w.3
    where
      go : (v u : Vector) → VectorInRange v → VectorInRange u → {d : ℕ} → ◌≡◌ {A = Outcome Row} (got (record { left = v; right = u }) d) (got r e) → RowInRange r
      go v u hv hu q = let z : record { left = v; right = u } ≡ r = cc in subst RowInRange z (record { left = hv; right = hu })

-- ---- four vectors
last_read_small : (b c d : Bool) (l u : Row) → RowInRange l → RowInRange u → VectorInRange (last_read b c d l u)
unfolding last_read
last_read_small b c true l u hl hu = hu.right
last_read_small b true false l u hl hu = hu.left
last_read_small true false false l u hl hu = hl.right
last_read_small false false false l u hl hu = hl.left

module _ (code : ℕ) (a b c d : Bool) (last : Vector) (p : List ℕ) (i : ℕ) where
  pub four_end : {k e : ℕ} → row code a b p i ≡ refused k e → moving_four code a b c d last p i ≡ refused k e
  unfolding moving_four
  four_end f = rw f

  pub four_cut : {l : Row} {e k j : ℕ} → row code a b p i ≡ got l e → row code c d p e ≡ refused k j → moving_four code a b c d last p i ≡ refused k j
  unfolding moving_four
  four_cut f g = rw (f, g)

  pub four_sent : {l u : Row} {e j : ℕ} → row code a b p i ≡ got l e → row code c d p e ≡ got u j → moving_four code a b c d last p i ≡ got (behind (Four l u) (last_read b c d l u) last) j
  unfolding moving_four
  four_sent f g = rw (f, g)

-- ---- a macro block of a mode
module _ (code mode : ℕ) (a b c d : Bool) (last last2 : Vector) (p : List ℕ) (i : ℕ) where
  pub motion_mv : mode ≡ 2 → motion code mode a b c d last last2 p i ≡ moving code last p i
  unfolding motion
  motion_mv h = rw (eq-eqb mode 2 h)

  module _ (n2 : mode ≡ 2 → ⊥) where
    pub motion_golden : mode ≡ 6 → motion code mode a b c d last last2 p i ≡ moving_golden code last last2 p i
    unfolding motion
    motion_golden h = rw (ne_eqb mode 2 n2, eq-eqb mode 6 h)

    module _ (n6 : mode ≡ 6 → ⊥) where
      pub motion_four : mode ≡ 7 → motion code mode a b c d last last2 p i ≡ moving_four code a b c d last p i
      unfolding motion
      motion_four h = rw (ne_eqb mode 2 n2, ne_eqb mode 6 n6, eq-eqb mode 7 h)

      pub motion_still : (mode ≡ 7 → ⊥) → motion code mode a b c d last last2 p i ≡ got (still mode last last2) i
      unfolding motion
      motion_still h = rw (ne_eqb mode 2 n2, ne_eqb mode 6 n6, ne_eqb mode 7 h)

  -- what is kept stays in range
  module _ (h : VectorInRange last) (h2 : VectorInRange last2) (m : Moved) (e : ℕ) where
    same : {n : Moved} {j : ℕ} → MovedInRange n → ◌≡◌ {A = Outcome Moved} (got n j) (got m e) → MovedInRange m
    same {n} k q = let z : n ≡ m = cc in subst MovedInRange z k

    mv_small : moving code last p i ≡ got m e → MovedInRange m
    unfolding moving
    mv_small r =
        let u = bind_got (vector code) (λ v. pure (behind (One (Previous v)) v last)) p i r in
        let k = vector_small code p i u.2 in
        same (record { motion = k; last = k; last2 = h }) u.3

    golden_small : moving_golden code last last2 p i ≡ got m e → MovedInRange m
    unfolding moving_golden
    golden_small r =
        let u = bind_got (vector code) (λ v. pure (behind (One (Golden v)) last last2)) p i r in
        same (record { motion = vector_small code p i u.2; last = h; last2 = h2 }) u.3

    four_small : moving_four code a b c d last p i ≡ got m e → MovedInRange m
    unfolding moving_four
    four_small r =
        let u = bind_got (row code a b) (λ l. bind (row code c d) (λ v. pure (behind (Four l v) (last_read b c d l v) last))) p i r in
        let w = bind_got (row code c d) (λ v. pure (behind (Four u.0 v) (last_read b c d u.0 v) last)) p u.1 u.3 in
        let l = row_small code a b p i u.2 in
        let v = row_small code c d p u.1 w.2 in
        same (record { motion = (l, v); last = last_read_small b c d u.0 w.0 l v; last2 = h }) w.3

    go_motion : (x y z : Bool) → pick x (moving code last) (pick y (moving_golden code last last2) (pick z (moving_four code a b c d last) (pure (still mode last last2)))) p i ≡ got m e → MovedInRange m
    go_motion true y z r = mv_small r
    go_motion false true z r = golden_small r
    go_motion false false true r = four_small r
    go_motion false false false r = same (still_small mode last last2 h h2) r

    pub motion_small : motion code mode a b c d last last2 p i ≡ got m e → MovedInRange m
    unfolding motion
    motion_small r = go_motion (eqb mode 2) (eqb mode 6) (eqb mode 7) r

-- ---- the vectors of the blocks
two_small : (a b : ℤ) → nat_abs a ≤ 31 → nat_abs b ≤ 31 → nat_abs (round_over 2 (a +ℤ b)) ≤ 31
two_small a b ha hb = (size_round {z = a +ℤ b} 2 31 (size_add (size {z = a} ha) (size {z = b} hb)) tt tt).le

mean_small : (a b c d : ℤ) → nat_abs a ≤ 31 → nat_abs b ≤ 31 → nat_abs c ≤ 31 → nat_abs d ≤ 31 → nat_abs (round_over 4 ((a +ℤ b) +ℤ (c +ℤ d))) ≤ 31
mean_small a b c d ha hb hc hd =
    (size_round {z = (a +ℤ b) +ℤ (c +ℤ d)} 4 31 (size_add (size_add (size {z = a} ha) (size {z = b} hb)) (size_add (size {z = c} hc) (size {z = d} hd))) tt tt).le

pub mean_two_small : (r : Row) → RowInRange r → VectorInRange (mean_of_two r)
unfolding mean_of_two
mean_two_small r h = record {
  x = two_small r.left.x r.right.x h.left.x h.right.x;
  y = two_small r.left.y r.right.y h.left.y h.right.y;
}

pub mean_four_small : (l u : Row) → RowInRange l → RowInRange u → VectorInRange (mean_of_four l u)
unfolding mean_of_four
mean_four_small l u h k = record {
  x = mean_small l.left.x l.right.x u.left.x u.right.x h.left.x h.right.x k.left.x k.right.x;
  y = mean_small l.left.y l.right.y u.left.y u.right.y h.left.y h.right.y k.left.y k.right.y;
}

module _ (l u : Row) where
  pub luma_a : (j : ℕ) → j ≡ 0 → l.left ≡ luma_vector l u j
  unfolding luma_vector
  luma_a j h = rw h

  pub luma_b : (j : ℕ) → j ≡ 1 → l.right ≡ luma_vector l u j
  unfolding luma_vector
  luma_b j h = rw h

  pub luma_c : (j : ℕ) → j ≡ 2 → u.left ≡ luma_vector l u j
  unfolding luma_vector
  luma_c j h = rw h

  pub luma_d : (j : ℕ) → j ≡ 3 → u.right ≡ luma_vector l u j
  unfolding luma_vector
  luma_d j h = rw h

  pub row_lower : (k : ℕ) → k % 2 ≡ 0 → mean_of_two l ≡ chroma_vector Chroma422 l u k
  unfolding chroma_vector
  row_lower k h = rw (eq-eqb (k % 2) 0 h)

  pub row_upper : (k : ℕ) → (k % 2 ≡ 0 → ⊥) → mean_of_two u ≡ chroma_vector Chroma422 l u k
  unfolding chroma_vector
  row_upper k h = rw (ne_eqb (k % 2) 0 h)

  module _ (f : PixelFormat) (k : ℕ) where
    pub four_luma : k < 4 → luma_vector l u k ≡ four_vector f l u k
    unfolding four_vector
    four_luma h = rw (lt-ltb k 4 h)

    pub four_chroma : 4 ≤ k → chroma_vector f l u k ≡ four_vector f l u k
    unfolding four_vector
    four_chroma h = rw (le-ltb k 4 h)

  module _ (h : RowInRange l) (k : RowInRange u) where
    luma_small : (j : ℕ) → VectorInRange (luma_vector l u j)
    unfolding luma_vector
    luma_small zero = h.left
    luma_small (suc zero) = h.right
    luma_small (suc (suc zero)) = k.left
    luma_small (suc (suc (suc zero))) = k.right
    luma_small (suc (suc (suc (suc j)))) = zero_small

    chroma_small : (f : PixelFormat) (j : ℕ) → VectorInRange (chroma_vector f l u j)
    unfolding chroma_vector
    chroma_small Chroma420 j = mean_four_small l u h k
    chroma_small Chroma422 j = go (eqb (j % 2) 0)
      where
        go : (t : Bool) → VectorInRange (choose t (mean_of_two l) (mean_of_two u))
        go true = mean_two_small l h
        go false = mean_two_small u k
    chroma_small Chroma444 j = luma_small (j % 4)

    pub four_vector_small : (f : PixelFormat) (j : ℕ) → VectorInRange (four_vector f l u j)
    unfolding four_vector
    four_vector_small f j = go (ltb j 4)
      where
        go : (t : Bool) → VectorInRange (choose t (luma_vector l u j) (chroma_vector f l u j))
        go true = luma_small j
        go false = chroma_small f j

-- the prediction of each block is in range
pub prediction_small : (f : PixelFormat) (m : Motion) (k : ℕ) → MotionInRange m → PredictionInRange (prediction_of f m k)
unfolding prediction_of
prediction_small f (One p) k h = h
prediction_small f (Four l u) k h = four_vector_small l u h.0 h.1 f k
