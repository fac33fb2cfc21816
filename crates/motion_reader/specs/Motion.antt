-- How a macro block moves: its prediction by its mode, and the vectors that are kept for the macro blocks behind it.
use Rattle.std.specs.Prelude.{ℕ, ◌%◌, [], ◌∷◌, Bool, eqb, ltb, ◌+ℤ◌, get_or}
use Rattle.bitstream.specs.Reading.{Outcome, got, refused, Parse, pure, pick, choose, ◌>>=◌}
use Rattle.numeric.specs.Divide.{round_over}
use Rattle.geometry.specs.declared.PixelFormat.{PixelFormat}
use Rattle.geometry.specs.declared.PixelFormat.TheVariants.{Chroma420, Chroma422, Chroma444}
use Rattle.block_record.specs.declared.Vector.{Vector}
use Rattle.block_record.specs.declared.Prediction.{Prediction}
use Rattle.block_record.specs.declared.Prediction.TheVariants.{Previous, Golden}
use Rattle.motion.specs.declared.Row.{Row}
use Rattle.motion.specs.declared.Motion.{Motion}
use Rattle.motion.specs.declared.Motion.TheVariants.{One, Four}
use Rattle.motion.specs.declared.Moved.{Moved}
use Rattle.motion_reader.specs.declared.RowRead.{RowRead}
use Rattle.motion_reader.specs.declared.RowRead.TheVariants as row_read
use Rattle.motion_reader.specs.declared.MovedRead.{MovedRead}
use Rattle.motion_reader.specs.declared.MovedRead.TheVariants as moved-read
use Rattle.motion_reader.specs.Component.{vector}
use Rattle.motion.specs.Kept.{zero_vector, behind, still, last_read}

-- 2 MV: "last2 takes last, last takes it"
unfoldable pub moving : ℕ → Vector → Parse Moved
moving code last = do
  v ← vector code
  pure (behind (One (Previous v)) v last)

-- 6 GOLDEN_MV: "stores nothing"
unfoldable pub moving_golden : ℕ → Vector → Vector → Parse Moved
moving_golden code last last2 = do
  v ← vector code
  pure (behind (One (Golden v)) last last2)

-- "one vector per coded block, else zero"
unfoldable pub if_coded : ℕ → Bool → Parse Vector
if_coded code coded = pick coded (vector code) (pure zero_vector)

-- two luma blocks beside each other
unfoldable pub row : ℕ → Bool → Bool → Parse Row
row code left right = do
  v ← if_coded code left
  u ← if_coded code right
  pure (record { left = v; right = u })

-- 7 FOUR: "luma blocks A, B (lower), C, D, .. last2 takes last", and last the last vector that was read
unfoldable pub moving_four : ℕ → Bool → Bool → Bool → Bool → Vector → Parse Moved
moving_four code a b c d last = do
  lower ← row code a b
  upper ← row code c d
  pure (behind (Four lower upper) (last_read b c d lower upper) last)

-- a macro block of a mode, where a, b, c, d say which of its luma blocks are coded. A mode is at most 7; any other number would count as NOMV
unfoldable pub motion : ℕ → ℕ → Bool → Bool → Bool → Bool → Vector → Vector → Parse Moved
motion code mode a b c d last last2 =
    pick (eqb mode 2) (moving code last)
    (pick (eqb mode 6) (moving_golden code last last2)
    (pick (eqb mode 7) (moving_four code a b c d last) (pure (still mode last last2))))

-- ---- the vector of each block in FOUR
-- "round of the mean"
unfoldable pub mean_of_two : Row → Vector
mean_of_two r = record { x = round_over 2 (r.left.x +ℤ r.right.x); y = round_over 2 (r.left.y +ℤ r.right.y) }

unfoldable pub mean_of_four : Row → Row → Vector
mean_of_four l u = record {
  x = round_over 4 ((l.left.x +ℤ l.right.x) +ℤ (u.left.x +ℤ u.right.x));
  y = round_over 4 ((l.left.y +ℤ l.right.y) +ℤ (u.left.y +ℤ u.right.y));
}

-- luma block j: A, B, C, D
unfoldable pub luma_vector : Row → Row → ℕ → Vector
luma_vector l u j = get_or (l.left ∷ l.right ∷ u.left ∷ u.right ∷ []) j zero_vector

-- "Subsampled chroma in FOUR: round of the mean of the 4 (4:2:0) or of its row's 2; in 4:4:4 chroma takes its luma block's": block k of the macro block
unfoldable pub chroma_vector : PixelFormat → Row → Row → ℕ → Vector
chroma_vector Chroma420 l u k = mean_of_four l u
chroma_vector Chroma422 l u k = choose (eqb (k % 2) 0) (mean_of_two l) (mean_of_two u)
chroma_vector Chroma444 l u k = luma_vector l u (k % 4)

-- block k of the macro block: luma A, B, C, D, then Cb, then Cr
unfoldable pub four_vector : PixelFormat → Row → Row → ℕ → Vector
four_vector f l u k = choose (ltb k 4) (luma_vector l u k) (chroma_vector f l u k)

-- the prediction of block k
unfoldable pub prediction_of : PixelFormat → Motion → ℕ → Prediction
prediction_of f (One p) k = p
prediction_of f (Four l u) k = Previous (four_vector f l u k)

-- ---- what the code answers
abbrev pub as_row : Outcome Row → RowRead
as_row (got r e) = row_read.Got r e
as_row (refused k e) = row_read.Refused k e

abbrev pub as_moved : Outcome Moved → MovedRead
as_moved (got m e) = moved-read.Got m e
as_moved (refused k e) = moved-read.Refused k e
