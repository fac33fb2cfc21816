-- DC prediction of a frame: the blocks of each plane in raster order, by their raster numbers.
use Rattle.std.specs.Prelude.{Bool, true, false, cond, List, [], ◌∷◌, ◌≡◌, ℕ, ◌+◌, ◌*◌, ◌≤◌, ◌<◌, ltb, ℤ, pos, ◌+ℤ◌, get_or, set}
use Rattle.numeric.specs.Cut.{cut}
use Rattle.block_record.specs.declared.BlockRecord.{BlockRecord}
use Rattle.block_record.specs.Record.{reference_of}
use Rattle.block_record.specs.Packed.{unpacked}
use Rattle.ways.specs.Loops.{up_to}
use Rattle.dc_neighbours.specs.declared.LastDc.{LastDc}
use Rattle.dc_neighbours.specs.Neighbours.{record_at}
use Rattle.dc_neighbours.specs.Block.{DcState, state_of, prediction}

-- "at first 0"
abbrev pub at_first : LastDc
at_first = record { values = pos 0 ∷ pos 0 ∷ pos 0 ∷ [] }

module _ (records : List BlockRecord) where
  -- a coded block: "The sum is cut to 16 bits", and is the last DC of its reference r
  unfoldable pub coded_step : ℕ → Bool → ℕ → ℕ → ℕ → DcState → DcState
  coded_step across below b x r s =
      let v = cut (get_or s.dc b (pos 0) +ℤ prediction records across below b x r s) in
      state_of (set s.dc b v) (record { values = set s.last.values r v })

  -- block x of the row that starts with block number `start`
  unfoldable pub block_step : ℕ → ℕ → Bool → ℕ → DcState → DcState
  block_step start across below x s =
      let k = record_at records (start + x) in
      cond k.coded (coded_step across below (start + x) x (reference_of k.prediction) s) s

  unfoldable pub row : ℕ → ℕ → Bool → DcState → DcState
  row start across below s = up_to across (block_step start across below) s

  -- "raster order per plane": the plane whose first block has the number `first`
  unfoldable pub plane : ℕ → ℕ → ℕ → List ℤ → List ℤ
  plane first across up dc =
      (up_to up (λ y. row (first + y * across) across (ltb 0 y)) (state_of dc at_first)).dc

  -- luma has `up` rows of `across` blocks, each chroma plane `chromaUp` rows of `chromaAcross`; "Planes follow on"
  unfoldable pub predicted_dc : ℕ → ℕ → ℕ → ℕ → List ℤ → List ℤ
  predicted_dc across up chroma_across chroma_up dc =
      plane (up * across + chroma_up * chroma_across) chroma_across chroma_up
      (plane (up * across) chroma_across chroma_up (plane 0 across up dc))

-- a row lies in lists of n and m numbers, with the row below it
pub record RowFits (start across : ℕ) (below : Bool) (n m : ℕ) : Type 0 where
  pub in_dc : start + across ≤ n
  pub in_records : start + across ≤ m
  pub under : below ≡ true → across ≤ start

-- of the blocks of a row, by their packed records, the first n are not coded
unfoldable pub NoneCoded : List ℕ → ℕ → ℕ → Type 0
NoneCoded ns start n = (x : ℕ) → x < n → (unpacked (get_or ns (start + x) 0)).coded ≡ false
