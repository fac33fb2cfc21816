-- The prediction of one block of a row, from the blocks before it and the last DC of each reference.
use Rattle.std.specs.Prelude.{Bool, true, ◌&&◌, List, ◌≡◌, ℕ, ◌+◌, ◌-◌, ◌≤◌, ◌<◌, ltb, ℤ, pos, get_or}
use Rattle.block_record.specs.declared.BlockRecord.{BlockRecord}
use Rattle.dc_neighbours.specs.declared.LastDc.{LastDc}
use Rattle.dc_neighbours.specs.Neighbours.{neighbour_back, predicted}

-- the DC of every block, by raster number, and the last DC of each reference
pub record DcState : Type 0 where
  pub dc : List ℤ
  pub last : LastDc

abbrev pub state_of : List ℤ → LastDc → DcState
state_of dc last = record { dc = dc; last = last }

module _ (records : List BlockRecord) where
  -- the prediction of block b, which is number x of its row, for the reference r; the row has `across` blocks, and `below` says whether a row lies below it
  unfoldable pub prediction : ℕ → Bool → ℕ → ℕ → ℕ → DcState → ℤ
  prediction across below b x r s =
      predicted
      (neighbour_back records s.dc r (ltb 0 x) b 1)
      (neighbour_back records s.dc r (below && ltb 0 x) b (across + 1))
      (neighbour_back records s.dc r below b across)
      (neighbour_back records s.dc r (below && ltb (x + 1) across) b (across - 1))
      (get_or s.last.values r (pos 0))

-- where a block and its neighbours lie, for a list of n numbers
pub record Within (across : ℕ) (below : Bool) (b x n : ℕ) : Type 0 where
  pub inside : b < n
  pub narrow : across ≤ n
  pub in_row : x < across
  pub left : x ≤ b
  pub under : below ≡ true → across + x ≤ b
