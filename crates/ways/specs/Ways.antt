-- Demand 3: the two ways to make a frame of w by h macro blocks.
use Rattle.std.specs.Prelude.{◌≡◌, Bool, true, false, not, cond, List, ℕ, ◌+◌, ◌*◌, ◌-◌, ◌<◌, ltb, get_or, set}
use Rattle.geometry.specs.declared.PixelFormat.{PixelFormat}
use Rattle.geometry.specs.declared.Block.{Block}
use Rattle.geometry.specs.Sizes.{across, up}
use Rattle.geometry.specs.Frame.{block}
use Rattle.geometry.specs.Sample.{sample_at}
use Rattle.ways.specs.Loops.{up_to, over, passing, when}
use Rattle.ways.specs.Raster.{each_sample}
use Rattle.geometry.specs.Raster.{raster}

-- What a packet asks for: which blocks are coded; the sample in column c and row r of a coded block before the loop filter, "predicted from golden and previous
-- themselves"; and what the loop filter makes of p1 and p2, given p0, p1, p2 and p3.
pub record Picture : Type 0 where
  pub coded : Block → Bool
  pub sample : Block → ℕ → ℕ → ℕ
  pub filtered : ℕ → ℕ → ℕ → ℕ → ℕ × ℕ

-- the neighbours of a block, in its plane
abbrev pub left_of : Block → Block
left_of b = block b.plane (b.x - 1) b.y

abbrev pub right_of : Block → Block
right_of b = block b.plane (b.x + 1) b.y

abbrev pub below : Block → Block
below b = block b.plane b.x (b.y - 1)

abbrev pub above : Block → Block
above b = block b.plane b.x (b.y + 1)

-- ---- the loop filter, given what it makes of p1 and p2
module _ (filtered : ℕ → ℕ → ℕ → ℕ → ℕ × ℕ) where
  -- "p0..p3 run right or up across it": the four samples from `at` on, `step` apart; p1 and p2 are replaced
  unfoldable pub across_edge : ℕ → ℕ → List ℕ → List ℕ
  across_edge at step s =
      let q = filtered (get_or s at 0) (get_or s (at + step) 0) (get_or s (at + step * 2) 0) (get_or s (at + step * 3) 0) in
      set (set s (at + step) q.0) (at + step * 2) q.1

  -- an edge: 8 times across it, the first p0 at `at`, the next ones `along` apart
  unfoldable pub edge : ℕ → ℕ → ℕ → List ℕ → List ℕ
  edge at along step = up_to 8 (λ k. across_edge (at + k * along) step)

  -- the edges of a block that are wanted, in this order. Its lowest left sample stands at `corner`, a row of its plane has `row` samples
  unfoldable pub edges_at : (corner row : ℕ) (left lower right upper : Bool) → List ℕ → List ℕ
  edges_at corner row left lower right upper s =
      let s₁ = when left (edge (corner - 2) row 1) s in
      let s₂ = when lower (edge (corner - 2 * row) 1 row) s₁ in
      let s₃ = when right (edge (corner + 6) row 1) s₂ in
      when upper (edge (corner + 6 * row) 1 row) s₃

module _ (f : PixelFormat) (w h : ℕ) where
  -- is there a block to the right, or above, and is it uncoded
  unfoldable pub open_right : (Block → Bool) → Block → Bool
  open_right coded b = cond (ltb (b.x + 1) (across f w b.plane)) (not (coded (right_of b))) false

  unfoldable pub open_above : (Block → Bool) → Block → Bool
  open_above coded b = cond (ltb (b.y + 1) (up f h b.plane)) (not (coded (above b))) false

  module _ (coded : Block → Bool) (filtered : ℕ → ℕ → ℕ → ℕ → ℕ × ℕ) where
    -- "left, lower edge inside the plane, right and upper edge only if that neighbour is uncoded"
    unfoldable pub edges : Block → List ℕ → List ℕ
    edges b =
        edges_at filtered (sample_at f w h b 0 0) (8 * across f w b.plane) (ltb 0 b.x) (ltb 0 b.y) (open_right coded b) (open_above coded b)

    -- "For each coded block in raster order"
    unfoldable pub filter_all : List ℕ → List ℕ
    filter_all = over (raster f w h) (λ b. when (coded b) (edges b))

  -- ---- "First way: make all blocks as said, then go over all for the loop filter."
  -- a sample as made: "Uncoded blocks copy previous"
  unfoldable pub made : Picture → List ℕ → Block → ℕ → ℕ → ℕ
  made pic previous b c r = cond (pic.coded b) (pic.sample b c r) (get_or previous (sample_at f w h b c r) 0)

  unfoldable pub first_way : Picture → List ℕ → List ℕ
  first_way pic previous = filter_all pic.coded pic.filtered (each_sample f w h (made pic previous))

  -- ---- "Second: take previous whole, write the coded blocks over it, .. then go over only these for the loop filter."
  -- the coded blocks, in raster order
  unfoldable pub only_coded : Picture → List Block
  only_coded pic = passing pic.coded (raster f w h)

  -- a block's 64 samples, written over what stands there
  unfoldable pub write_block : Picture → Block → List ℕ → List ℕ
  write_block pic b = up_to 8 (λ r. up_to 8 (λ c s. set s (sample_at f w h b c r) (pic.sample b c r)))

  unfoldable pub second_way : Picture → List ℕ → List ℕ
  second_way pic previous = over (only_coded pic) (edges pic.coded pic.filtered) (over (only_coded pic) (write_block pic) previous)

  -- ---- a sample in the outermost row or column of its block, along an edge shared with a coded block of the same plane
  pub data AlongCoded (pic : Picture) (b : Block) (c r : ℕ) : Type 0 where
    at_left : c ≡ 0 → 0 < b.x → pic.coded (left_of b) ≡ true → AlongCoded pic b c r
    at_right : c ≡ 7 → b.x + 1 < across f w b.plane → pic.coded (right_of b) ≡ true → AlongCoded pic b c r
    at_bottom : r ≡ 0 → 0 < b.y → pic.coded (below b) ≡ true → AlongCoded pic b c r
    at_top : r ≡ 7 → b.y + 1 < up f h b.plane → pic.coded (above b) ≡ true → AlongCoded pic b c r
