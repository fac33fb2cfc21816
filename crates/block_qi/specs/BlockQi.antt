-- Which of the frame's qi each coded block has: the index in its record. The coded blocks are raster numbers in coded order, the records go by raster number.
use Rattle.std.specs.Prelude.{ℕ, zero, suc, ◌+◌, ◌-◌, List, [], ◌∷◌, eqb, get_or, drop, set}
use Rattle.bitstream.specs.Reading.{Parse, pure, bind, choose, ◌>>=◌}
use Rattle.runs.specs.Runs.{bit_string}
use Rattle.runs.specs.declared.RunCode.TheVariants.{Long}
use Rattle.block_record.specs.declared.BlockRecord.{BlockRecord}
use Rattle.block_record.specs.Record.{uncoded, with_qi_index}

-- the index of block b
abbrev pub index_at : List BlockRecord → ℕ → ℕ
index_at records b = (get_or records b uncoded).qi_index

-- "the coded blocks still at the step": how many have the index q
unfoldable pub at_step : ℕ → List ℕ → List BlockRecord → ℕ
at_step q [] records = 0
at_step q (b ∷ coded) records = choose (eqb (index_at records b) q) 1 0 + at_step q coded records

-- the bits go to these blocks in turn, and a bit 1 raises the index
unfoldable pub raised : ℕ → List ℕ → List ℕ → List BlockRecord → List BlockRecord
raised q [] bits records = records
raised q (b ∷ coded) bits records =
    choose (eqb (index_at records b) q)
    (raised q coded (drop 1 bits) (set records b (with_qi_index (q + get_or bits 0 0) (get_or records b uncoded))))
    (raised q coded bits records)

-- "a long-run string per step raises the index of the coded blocks still at the step"
unfoldable pub one_step : ℕ → List ℕ → List BlockRecord → Parse (List BlockRecord)
one_step q coded records = do
  bits ← bit_string Long (at_step q coded records)
  pure (raised q coded bits records)

-- n steps, from step q on
unfoldable pub qi_steps : ℕ → ℕ → List ℕ → List BlockRecord → Parse (List BlockRecord)
qi_steps zero q coded records = pure records
qi_steps (suc n) q coded records = bind (one_step q coded records) (qi_steps n (q + 1) coded)

-- "Block qi: with more than one": n qi have n - 1 steps
unfoldable pub block_qi : ℕ → List ℕ → List BlockRecord → Parse (List BlockRecord)
block_qi n coded records = qi_steps (n - 1) 0 coded records
