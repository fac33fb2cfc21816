-- The worked examples of sizes and orders.
use mathlib.Core.Path.{◌≡◌, refl, sym, ◌∙◌}
use Prim.Native.Nat.{ℕ, ◌≤◌}
use native.Mathlib.Omega.{arith}
use Rattle.geometry.specs.declared.PixelFormat.TheVariants.{Chroma420, Chroma444}
use Rattle.geometry.specs.Sizes.{blocks_of, super_blocks_of, plane_of, total}
use Rattle.geometry.specs.Order.{block_walk, ordered, row, square, in_turn, shifted, present, find, block_order, coded_macros}
use Rattle.geometry.specs.Rank.{rank_in}
use Rattle.geometry.specs.Square.{reach}
use Rattle.geometry.proofs.Orders.{index_of}
use Rattle.geometry.proofs.PlaneOrders.{block_order_law}

-- "block (3,3) is 10": in every plane of at least 4 by 4 blocks
rank_3_3 : rank_in block_walk 4 4 3 3 ≡ 10
unfolding rank_in find present
rank_3_3 = refl

pub block_3_3 : (w h : ℕ) → 4 ≤ w → 4 ≤ h → find 3 3 (block_order w h) ≡ 10
block_3_3 w h hw hh =
    let u : reach 4 w 0 ≡ 4 = omega arith in
    let v : reach 4 h 0 ≡ 4 = omega arith in
    let r : rank_in block_walk (reach 4 w 0) (reach 4 h 0) 3 3 ≡ 10 = (λ k. rank_in block_walk (u k) (v k) 3 3) ∙ rank_3_3 in
    let t = (block_order_law w h).there 3 3 (omega arith) (omega arith) in
    sym ((block_order_law w h).found 3 3 (index_of 4 (rank_in block_walk) w h 3 3) t.0 t.1) ∙ omega (arith, r)

-- "240×48 luma: (0,4) is 120, (3,5) is 124": 30 by 6 blocks
pub block_0_4 : find 0 4 (block_order 30 6) ≡ 120
unfolding ordered row square in_turn shifted present find
block_0_4 = refl

pub block_3_5 : find 3 5 (block_order 30 6) ≡ 124
unfolding ordered row square in_turn shifted present find
block_3_5 = refl

-- 15 by 3 macro blocks: the third row begins with number 30
pub macro_0_2 : find 0 2 (coded_macros 15 3) ≡ 30
unfolding ordered row square in_turn shifted present find
macro_0_2 = refl

-- "4:2:0 4096×4097 macro blocks: luma 4,296,015,872 bytes, NBS 100,687,872"
pub luma_bytes : (plane_of Chroma420 4096 4097 0).length ≡ 4296015872
luma_bytes = refl

pub blocks_420 : blocks_of Chroma420 4096 4097 ≡ 100687872
unfolding blocks_of total
blocks_420 = refl

-- "65,535 squared 4:4:4: NBS 51,538,034,700"
pub blocks_444 : blocks_of Chroma444 65535 65535 ≡ 51538034700
unfolding blocks_of total
blocks_444 = refl

-- 240×48 in 4:2:0: 8 by 2 luma super blocks, 4 by 1 of each chroma plane
pub super_blocks_420 : super_blocks_of Chroma420 15 3 ≡ 24
unfolding super_blocks_of total
super_blocks_420 = refl
