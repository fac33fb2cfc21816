-- DC prediction of one block: which neighbours count, and what they give.
use Rattle.std.specs.Prelude.{Bool, cond, ◌&&◌, List, Option, Some, None, ℕ, ◌-◌, eqb, ℤ, pos, get_or}
use Rattle.std.specs.Option.{is_some}
use Rattle.block_record.specs.declared.BlockRecord.{BlockRecord}
use Rattle.block_record.specs.Record.{reference_of, uncoded}
use Rattle.dc_means.specs.Means.{mean_ldr, mean_dl_ddr, mean_of_two, replaced}

-- the DC of a neighbour that counts
abbrev pub dc_of : Option ℤ → ℤ
dc_of (Some v) = v
dc_of None = pos 0

module _ (records : List BlockRecord) where
  -- the record of block n; none is as one that is not coded
  abbrev pub record_at : ℕ → BlockRecord
  record_at n = get_or records n uncoded

  -- "neighbours .. count if coded with the same reference"
  abbrev pub counts : ℕ → ℕ → Bool
  counts r n = (record_at n).coded && eqb (reference_of (record_at n).prediction) r

  -- block n as a neighbour of a block with the reference r
  unfoldable pub neighbour_at : List ℤ → ℕ → ℕ → Option ℤ
  neighbour_at dc r n = cond (counts r n) (Some (get_or dc n (pos 0))) None

  -- the neighbour whose number is `back` before b, where there is one
  unfoldable pub neighbour_back : List ℤ → ℕ → Bool → ℕ → ℕ → Option ℤ
  neighbour_back dc r there b back = cond there (neighbour_at dc r (b - back)) None

-- "First that applies: L, DL, D: ..; L, DR: ..; DL, D, DR: ..; L, D: ..; D; L; DL, DR: ..; DL; DR; else the last DC of that reference in this plane"
unfoldable pub predicted : Option ℤ → Option ℤ → Option ℤ → Option ℤ → ℤ → ℤ
predicted l dl d dr last =
    cond (is_some l && is_some dl && is_some d) (replaced (dc_of l) (dc_of dl) (dc_of d))
    (cond (is_some l && is_some dr) (mean_ldr (dc_of l) (dc_of dr))
    (cond (is_some dl && is_some d && is_some dr) (mean_dl_ddr (dc_of dl) (dc_of d) (dc_of dr))
    (cond (is_some l && is_some d) (mean_of_two (dc_of l) (dc_of d))
    (cond (is_some d) (dc_of d)
    (cond (is_some l) (dc_of l)
    (cond (is_some dl && is_some dr) (mean_of_two (dc_of dl) (dc_of dr))
    (cond (is_some dl) (dc_of dl)
    (cond (is_some dr) (dc_of dr) last))))))))
