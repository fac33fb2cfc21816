-- The flags of one super block, as the code comes to them.
use Rattle.std.specs.Prelude.{ℕ, ◌+◌, List, eqb, get_or, take, drop, replicate}
use Rattle.bitstream.specs.Reading.{choose}
use Rattle.block_flags.specs.declared.Taken.{Taken}

-- the flags of a super block of `count` blocks, and how much is then taken of the strings
abbrev pub block_flags : ℕ → ℕ → List ℕ → List ℕ → Taken → List ℕ
block_flags partly count full bits t = choose (eqb partly 1) (take count (drop t.bits bits)) (replicate count (get_or full t.full 0))

abbrev pub taken_next : ℕ → ℕ → Taken → Taken
taken_next partly count t = choose (eqb partly 1) (record { full = t.full; bits = t.bits + count }) (record { full = t.full + 1; bits = t.bits })
