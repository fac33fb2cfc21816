-- Each block of a plane, and each macro block of a frame, stands in its coded order exactly once.
use mathlib.Core.Path.{◌≡◌}
use mathlib.Core.List.{List}
use Prim.Native.Nat.{ℕ, ◌*◌, ◌<◌}
use lib.ListN.{length, get_or}
use Rattle.geometry.specs.declared.Place.{Place}
use Rattle.geometry.specs.Order.{at, ordered, find, block_order, coded_macros, block_walk, macro_walk}
use Rattle.geometry.specs.Rank.{rank_in}
use Rattle.geometry.proofs.Orders.{Walk, index_of, ordered_length, there, back, once, found}
use Rattle.geometry.proofs.Walks.{block_walk_law, macro_walk_law}

-- a list of the places of w by h: each has one number below h w, and each number below h w has one place
pub record EachOnce (l : List Place) (number : ℕ → ℕ → ℕ) (w h : ℕ) : Type 0 where
  pub all : length l ≡ h * w
  pub there : (x y : ℕ) → x < w → y < h → (number x y < h * w) × (get_or l (number x y) (at 0 0) ≡ at x y)
  pub back : (i : ℕ) → i < h * w → ((get_or l i (at 0 0)).x < w) × ((get_or l i (at 0 0)).y < h) × (number (get_or l i (at 0 0)).x (get_or l i (at 0 0)).y ≡ i)
  pub once : (i j : ℕ) → i < h * w → j < h * w → get_or l i (at 0 0) ≡ get_or l j (at 0 0) → i ≡ j
  -- where a place stands is where the list finds it
  pub found : (x y r : ℕ) → r < h * w → get_or l r (at 0 0) ≡ at x y → r ≡ find x y l

each_once : (s : ℕ) (walk : List Place) (rank : ℕ → ℕ → ℕ → ℕ → ℕ) → Walk s walk rank → (w h : ℕ) → EachOnce (ordered s walk w h) (index_of s rank w h) w h
each_once s walk rank ok w h = record {
  all = ordered_length s walk rank ok w h;
  there = there s walk rank ok w h;
  back = back s walk rank ok w h;
  once = once s walk rank ok w h;
  found = found s walk rank ok w h;
}

pub block_order_law : (w h : ℕ) → EachOnce (block_order w h) (index_of 4 (rank_in block_walk) w h) w h
block_order_law = each_once 4 block_walk (rank_in block_walk) block_walk_law

pub macro_order : (w h : ℕ) → EachOnce (coded_macros w h) (index_of 2 (rank_in macro_walk) w h) w h
macro_order = each_once 2 macro_walk (rank_in macro_walk) macro_walk_law
