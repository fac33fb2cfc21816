-- What is fetched for a block: where its two fetches begin, and the means of them, row by row.
use Rattle.std.specs.Prelude.{ℕ, ◌+◌, ◌/◌, ◌*◌, ◌≤◌, ◌<◌, ◌≡◌, List, pos, nat_abs, ◌+ℤ◌, get_or}
use Rattle.geometry.specs.declared.PixelFormat.{PixelFormat}
use Rattle.geometry.specs.declared.Plane.{Plane}
use Rattle.geometry.specs.declared.Block.{Block}
use Rattle.block_record.specs.declared.Vector.{Vector}
use Rattle.fetches.specs.declared.Fetches.{Fetches}
use Rattle.fetches.specs.Motion.{subsampled_across, subsampled_up, steps, down, rounded_up, fetch}

-- "the floor of the mean"
abbrev pub mean : ℕ → ℕ → ℕ
mean a b = (a + b) / 2

-- a plane that has samples, at most as many as a frame's can have
pub record Small (q : Plane) : Type 0 where
  pub across : 0 < q.across
  pub up : 0 < q.up
  pub across_small : q.across ≤ 131070
  pub up_small : q.up ≤ 131070
  pub offset_small : q.offset ≤ 3298434220800

-- and that lies in a buffer of n
pub record Lies (q : Plane) (n : ℕ) : Type 0 where
  pub small : Small q
  pub end : q.offset + 64 * (q.up * q.across) ≤ n

-- where the fetches of a block begin, the one with magnitudes down and the one with magnitudes up
unfoldable pub fetches_of : PixelFormat → Block → Vector → Fetches
fetches_of f b v =
    let m = steps (subsampled_across f b.plane) in
    let n = steps (subsampled_up f b.plane) in
    record {
      x1 = pos (8 * b.x) +ℤ down m v.x;
      y1 = pos (8 * b.y) +ℤ down n v.y;
      x2 = pos (8 * b.x) +ℤ rounded_up m v.x;
      y2 = pos (8 * b.y) +ℤ rounded_up n v.y;
    }

-- not farther from a plane than a vector leads
pub record Near (t : Fetches) : Type 0 where
  pub x1 : nat_abs t.x1 ≤ 1048591
  pub y1 : nat_abs t.y1 ≤ 1048591
  pub x2 : nat_abs t.x2 ≤ 1048591
  pub y2 : nat_abs t.y2 ≤ 1048591

-- the mean of the two fetches for column c and row r
unfoldable pub mean_at : Plane → List ℕ → Fetches → ℕ → ℕ → ℕ
mean_at q s t c r = mean (fetch q s (t.x1 +ℤ pos c) (t.y1 +ℤ pos r)) (fetch q s (t.x2 +ℤ pos c) (t.y2 +ℤ pos r))

-- 64 samples in a list, row by row
pub record RowByRow (sample : ℕ → ℕ → ℕ) (t : List ℕ) : Type 0 where
  pub each : (c r : ℕ) → c < 8 → r < 8 → get_or t (r * 8 + c) 0 ≡ sample c r
